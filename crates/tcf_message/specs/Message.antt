-- Messages in the formats of the TCF specification's protocol page (commands, results, events, flow control): a
-- type letter, zero-ended fields, and then the data, which goes to the end of the message.
use Rattle.std.specs.Prelude.{◌≡◌, ℕ, zero, suc, ◌+◌, ◌-◌, ◌*◌, ◌<◌, ◌≤◌, ℤ, pos, negsuc, ◌≤ℤ◌, Bool, false, ◌&&◌, ◌==◌, nat_lt, nat_le, if◌then◌else◌, List, [], ◌∷◌, ◌++◌, length, take, drop, codes, Option, Some, None, Result, Ok, Err}
use Rattle.std.specs.List.{list_any, position}
use Rattle.std.specs.Fmt.{signed_decimal}
use Rattle.tcf_message.specs.declared.message.Message.{Message}
use Rattle.tcf_message.specs.declared.message.Message.TheVariants as kinds
use Rattle.tcf_message.specs.declared.message.MessageFault.{MessageFault}
use Rattle.tcf_message.specs.declared.message.MessageFault.TheVariants.{Empty, Unended, Kind, Token, Level, Trailing, Body}

-- ---- The limits

-- the most bytes that service, name and data have together, without the zeros that end fields
abbrev pub most_body : ℕ
most_body = 1048576

-- the most bytes of a token
abbrev pub most_token : ℕ
most_token = 255

-- ---- What a message is

-- a message without where it lies in memory
pub data MessageValue : Type 0 where
  command : (token service name body : List ℕ) → MessageValue
  final : (token body : List ℕ) → MessageValue
  progress : (token body : List ℕ) → MessageValue
  not_known : (token : List ℕ) → MessageValue
  event : (service name body : List ℕ) → MessageValue
  flow : (level : ℤ) → MessageValue

abbrev pub value_of : Message → MessageValue
value_of (kinds.Command token service name body) = command token.now service.now name.now body.now
value_of (kinds.Result token body) = final token.now body.now
value_of (kinds.Progress token body) = progress token.now body.now
value_of (kinds.NotKnown token) = not_known token.now
value_of (kinds.Event service name body) = event service.now name.now body.now
value_of (kinds.Flow level) = flow level

-- ---- Its one spelling

infixr 5 ◌•◌
-- a field, the zero that ends it, and what follows
abbrev pub ◌•◌ : List ℕ → List ℕ → List ℕ
field • rest = field ++ 0 ∷ rest

abbrev pub spelling : MessageValue → List ℕ
spelling (command token service name body) = codes "C" • token • service • name • body
spelling (final token body) = codes "R" • token • body
spelling (progress token body) = codes "P" • token • body
spelling (not_known token) = codes "N" • token • []
spelling (event service name body) = codes "E" • service • name • body
spelling (flow level) = codes "F" • signed_decimal level • []

abbrev pub is_zero : ℕ → Bool
is_zero byte = byte == 0

abbrev pub HasNoZero : List ℕ → Type 0
HasNoZero text = list_any is_zero text ≡ false

abbrev pub IsToken : List ℕ → Type 0
IsToken token = HasNoZero token × (0 < length token) × (length token ≤ most_token)

abbrev pub IsLevel : ℤ → Type 0
IsLevel level = (negsuc 99 ≤ℤ level) × (level ≤ℤ pos 100)

-- the fields can be spelled so that they are read again
abbrev pub HasFields : MessageValue → Type 0
HasFields (command token service name body) = IsToken token × HasNoZero service × HasNoZero name
HasFields (final token body) = IsToken token
HasFields (progress token body) = IsToken token
HasFields (not_known token) = IsToken token
HasFields (event service name body) = HasNoZero service × HasNoZero name
HasFields (flow level) = IsLevel level

-- the bytes of service, name and data
abbrev pub body_length : MessageValue → ℕ
body_length (command token service name body) = length service + length name + length body
body_length (final token body) = length body
body_length (progress token body) = length body
body_length (not_known token) = 0
body_length (event service name body) = length service + length name + length body
body_length (flow level) = 0

abbrev pub IsWellFormed : MessageValue → Type 0
IsWellFormed m = HasFields m × (body_length m ≤ most_body)

-- the grammar: the bytes say this message
abbrev pub Says : MessageValue → List ℕ → Type 0
Says m bytes = IsWellFormed m × (bytes ≡ spelling m)

-- new is old and a front of the text
abbrev pub HasPut : List ℕ → List ℕ → List ℕ → Type 0
HasPut text old new = (front rest : List ℕ) × (text ≡ front ++ rest) × (new ≡ old ++ front)

-- ---- Reading from the left, with the first fault that is met

-- what a function returned, seen by view, is what reading gives
abbrev pub Gives : {X Y : Type 0} → (X → Y) → Result X MessageFault → Result Y MessageFault → Type 0
Gives view (Ok x) read = read ≡ Ok (view x)
Gives view (Err fault) read = read ≡ Err fault

infixl 10 ◌>>=◌
abbrev pub ◌>>=◌ : {A B : Type 0} → Result A MessageFault → (A → Result B MessageFault) → Result B MessageFault
(Ok x) >>= f = f x
(Err fault) >>= f = Err fault

-- the bytes before a place, and those behind the byte there
abbrev pub cut : ℕ → List ℕ → Option ℕ → Result (List ℕ × List ℕ) MessageFault
cut place bytes None = Err (Unended place)
cut place bytes (Some end) = Ok (take end bytes, drop (end + 1) bytes)

-- the field at the front of the bytes, and what follows its zero; the field begins at this place of the message
unfoldable pub field_at : ℕ → List ℕ → Result (List ℕ × List ℕ) MessageFault
field_at place bytes = cut place bytes (position is_zero bytes)

unfoldable pub token_at : ℕ → List ℕ → Result (List ℕ × List ℕ) MessageFault
token_at place bytes = do
  field ← field_at place bytes
  if nat_lt 0 (length field.0) && nat_le (length field.0) most_token then Ok field else Err (Token (length field.0))

-- a digit from 1 to 9, and one from 0 to 9
abbrev pub is_first : ℕ → Bool
is_first byte = nat_le 49 byte && nat_le byte 57

abbrev pub is_digit : ℕ → Bool
is_digit byte = nat_le 48 byte && nat_le byte 57

-- a number from 0 to 100 by its digits
unfoldable pub number_of : List ℕ → Option ℕ
number_of [] = None
number_of (a ∷ []) = if is_digit a then Some (a - 48) else None
number_of (a ∷ b ∷ []) = if is_first a && is_digit b then Some (10 * (a - 48) + (b - 48)) else None
number_of (a ∷ b ∷ c ∷ []) = if (a == 49) && (b == 48) && (c == 48) then Some 100 else None
number_of (a ∷ b ∷ c ∷ d ∷ more) = None

-- behind a minus stands a number above 0
abbrev pub below_zero : Option ℕ → Option ℤ
below_zero None = None
below_zero (Some zero) = None
below_zero (Some (suc n)) = Some (negsuc n)

abbrev pub from_zero : Option ℕ → Option ℤ
from_zero None = None
from_zero (Some n) = Some (pos n)

unfoldable pub level_of : List ℕ → Option ℤ
level_of [] = None
level_of (a ∷ text) = if a == 45 then below_zero (number_of text) else from_zero (number_of (a ∷ text))

abbrev pub with_level : Option ℤ → Result ℤ MessageFault
with_level None = Err Level
with_level (Some level) = Ok level

-- the message where nothing follows it
abbrev pub ended : ℕ → List ℕ → MessageValue → Result MessageValue MessageFault
ended place [] m = Ok m
ended place (byte ∷ bytes) m = Err (Trailing place)

-- the message where its body is within the limit
abbrev pub limited : MessageValue → Result MessageValue MessageFault
limited m = if nat_lt most_body (body_length m) then Err (Body (body_length m)) else Ok m

unfoldable pub command_of : List ℕ → Result MessageValue MessageFault
command_of bytes = do
  token ← token_at 2 bytes
  service ← field_at (3 + length token.0) token.1
  name ← field_at (4 + length token.0 + length service.0) service.1
  limited (command token.0 service.0 name.0 name.1)

unfoldable pub final_of : List ℕ → Result MessageValue MessageFault
final_of bytes = do
  token ← token_at 2 bytes
  limited (final token.0 token.1)

unfoldable pub progress_of : List ℕ → Result MessageValue MessageFault
progress_of bytes = do
  token ← token_at 2 bytes
  limited (progress token.0 token.1)

unfoldable pub not_known_of : List ℕ → Result MessageValue MessageFault
not_known_of bytes = do
  token ← token_at 2 bytes
  ended (3 + length token.0) token.1 (not_known token.0)

unfoldable pub event_of : List ℕ → Result MessageValue MessageFault
event_of bytes = do
  service ← field_at 2 bytes
  name ← field_at (3 + length service.0) service.1
  limited (event service.0 name.0 name.1)

unfoldable pub flow_of : List ℕ → Result MessageValue MessageFault
flow_of bytes = do
  field ← field_at 2 bytes
  level ← with_level (level_of field.0)
  ended (3 + length field.0) field.1 (flow level)

-- the fields behind the type letter
abbrev pub by_letter : ℕ → ℕ → List ℕ → Result MessageValue MessageFault
by_letter first letter rest =
    if letter == 67 then command_of rest
    else if letter == 82 then final_of rest
    else if letter == 80 then progress_of rest
    else if letter == 78 then not_known_of rest
    else if letter == 69 then event_of rest
    else if letter == 70 then flow_of rest
    else Err (Kind first)

unfoldable pub by_kind : ℕ → List ℕ → List ℕ → Result MessageValue MessageFault
by_kind first [] rest = Err (Kind first)
by_kind first (letter ∷ []) rest = by_letter first letter rest
by_kind first (letter ∷ next ∷ more) rest = Err (Kind first)

unfoldable pub reading : List ℕ → Result MessageValue MessageFault
reading [] = Err Empty
reading (first ∷ bytes) = do
  kind ← field_at 0 (first ∷ bytes)
  by_kind first kind.0 kind.1
