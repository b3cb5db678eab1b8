-- The first fault of bytes that say no message of the TCF specification's protocol page, in words on whole lists:
-- what stands before it is right.
use Rattle.std.specs.Prelude.{◌≡◌, ℕ, ◌^◌, ◌<◌, ℤ, true, false, ◌==◌, ◌↔◌, ◌⊎◌, List, [], ◌∷◌, ◌++◌, length, codes, slice_get, Some, Ok, Err}
use Rattle.std.specs.List.{list_any}
use Rattle.std.specs.Fmt.{decimal, signed_decimal}
use Rattle.tcf_message.specs.declared.message.MessageFault.{MessageFault}
use Rattle.tcf_message.specs.declared.message.MessageFault.TheVariants.{Empty, Unended, Kind, Token, Level, Trailing, Body}
use Rattle.tcf_message.specs.Message.{most_body, most_token, MessageValue, command, final, progress, not_known, event, flow, ◌•◌, spelling, HasNoZero, IsToken, IsLevel, HasFields, IsWellFormed, Says, body_length, reading}

-- the letter is one of these
abbrev pub IsAmong : ℕ → List ℕ → Type 0
IsAmong letter letters = list_any (λ l. letter == l) letters ≡ true

-- right fields that stand before one more field
pub data Front : Type 0 where
  start : Front
  kind : (letter : ℕ) → Front
  command_token : (token : List ℕ) → Front
  command_service : (token service : List ℕ) → Front
  event_service : (service : List ℕ) → Front

abbrev pub IsRight : Front → Type 0
IsRight start = Unit {0}
IsRight (kind letter) = IsAmong letter (codes "CRPNEF")
IsRight (command_token token) = IsToken token
IsRight (command_service token service) = IsToken token × HasNoZero service
IsRight (event_service service) = HasNoZero service

-- these fields, and what follows them
abbrev pub followed : Front → List ℕ → List ℕ
followed start rest = rest
followed (kind letter) rest = (letter ∷ []) • rest
followed (command_token token) rest = codes "C" • token • rest
followed (command_service token service) rest = codes "C" • token • service • rest
followed (event_service service) rest = codes "E" • service • rest

-- the last part of the message is a field
abbrev pub EndsInField : MessageValue → Type 0
EndsInField (command token service name body) = ⊥
EndsInField (final token body) = ⊥
EndsInField (progress token body) = ⊥
EndsInField (not_known token) = Unit {0}
EndsInField (event service name body) = ⊥
EndsInField (flow level) = Unit {0}

abbrev pub IsFault : MessageFault → List ℕ → Type 0
IsFault Empty bytes = bytes ≡ []
-- right fields, and then bytes without a zero
IsFault (Unended place) bytes =
    (front : Front) × (rest : List ℕ) × IsRight front × HasNoZero rest × (bytes ≡ followed front rest)
    × (place ≡ length (followed front [])) × (0 < length bytes)
-- a first field that is no letter of the six
IsFault (Kind byte) bytes =
    (text rest : List ℕ) × HasNoZero text × (bytes ≡ text • rest)
    × ((letter : ℕ) → text ≡ letter ∷ [] → list_any (λ l. letter == l) (codes "CRPNEF") ≡ false) × (slice_get bytes 0 ≡ Some byte)
-- a letter that wants a token, and a field of no byte or too many
IsFault (Token size) bytes =
    (letter : ℕ) × (text rest : List ℕ) × IsAmong letter (codes "CRPN") × HasNoZero text × (bytes ≡ (letter ∷ []) • text • rest)
    × (size ≡ length text) × ((size ≡ 0) ⊎ (most_token < size))
-- the letter F, and a field that spells no level
IsFault Level bytes =
    (text rest : List ℕ) × HasNoZero text × (bytes ≡ codes "F" • text • rest)
    × ((level : ℤ) → IsLevel level → text ≡ signed_decimal level → ⊥)
-- a whole message that ends in a field, and more bytes
IsFault (Trailing place) bytes =
    (m : MessageValue) × (rest : List ℕ) × HasFields m × EndsInField m × (bytes ≡ spelling m ++ rest)
    × (place ≡ length (spelling m)) × (0 < length rest)
-- a message that is right but for the length of its body
IsFault (Body size) bytes =
    (m : MessageValue) × HasFields m × (bytes ≡ spelling m) × (size ≡ body_length m) × (most_body < size)

-- ---- The laws

-- what is read is what the bytes say, and what they say is read
abbrev pub IsReadBack : Type 0
IsReadBack =
    ((bytes : List ℕ) (m : MessageValue) → (reading bytes ≡ Ok m) ↔ Says m bytes)
    × ((m : MessageValue) → IsWellFormed m → reading (spelling m) ≡ Ok m)

-- no two messages have one spelling
abbrev pub IsOneSpelling : Type 0
IsOneSpelling = (m n : MessageValue) → IsWellFormed m → IsWellFormed n → spelling m ≡ spelling n → m ≡ n

-- a fault is read exactly where the bytes have it
abbrev pub AreFaults : Type 0
AreFaults = (bytes : List ℕ) (fault : MessageFault) → (reading bytes ≡ Err fault) ↔ IsFault fault bytes

-- bytes say one message, or have one fault
abbrev pub IsOneAnswer : Type 0
IsOneAnswer =
    (bytes : List ℕ) (fault : MessageFault) → IsFault fault bytes
    → ((m : MessageValue) → Says m bytes → ⊥) × ((other : MessageFault) → IsFault other bytes → other ≡ fault)

-- bytes say a message, or have a fault
abbrev pub IsAnswered : Type 0
IsAnswered = (bytes : List ℕ) → ((m : MessageValue) × Says m bytes) ⊎ ((fault : MessageFault) × IsFault fault bytes)

-- the decimal digits of a number are a token
abbrev pub IsDecimalToken : Type 0
IsDecimalToken = (n : ℕ) → n < 2 ^ 64 → IsToken (decimal n)
