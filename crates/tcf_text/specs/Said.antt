-- How the words and the data of a line are read, where they are shown so that they can be read back.
use Rattle.std.specs.Prelude.{ℕ, ◌≡◌, ◌^◌, ◌<◌, ◌+◌, ◌-◌, ◌*◌, ◌==◌, ◌&&◌, List, [], ◌∷◌, ◌++◌, Option, Some, None, option_map, option_and_then, if◌then◌else◌, nat_lt, decimal, bytes_eq}
use Rattle.std.specs.Int.{is_in_range}
use Rattle.std.specs.List.{AllByRecursion, flat_map, slice_split}
use Rattle.std.specs.Str.Parse.{digits_value}
use Rattle.tcf_text.specs.declared.said.Named.{Named}
use Rattle.tcf_text.specs.Log.{is_hidden, shown_byte, readable}

-- ---- Numbers

-- the number below 2^64 whose digits these are, without a sign or a leading zero
unfoldable pub long_number_of : List ℕ → Option ℕ
long_number_of digits =
    let n = digits_value 10 digits in
    if bytes_eq digits (decimal n) && nat_lt n (2 ^ 64) then Some n else None

-- a mark: a number, or `-` where there is none
unfoldable pub mark_said : List ℕ → Option (Option ℕ)
mark_said text = if bytes_eq text (45 ∷ []) then Some None else option_map (λ n. Some n) (long_number_of text)

-- ---- Words

abbrev pub upper_digit : ℕ → Option ℕ
upper_digit digit = if is_in_range 48 57 digit then Some (digit - 48) else if is_in_range 65 70 digit then Some (digit - 55) else None

-- no word has a zero byte
abbrev pub no_zero : ℕ → Option ℕ
no_zero byte = if byte == 0 then None else Some byte

-- the byte that two upper-case hexadecimal digits say
abbrev pub byte_said : ℕ → ℕ → Option ℕ
byte_said high low = option_and_then (λ h. option_and_then (λ l. no_zero (h * 16 + l)) (upper_digit low)) (upper_digit high)

-- a byte that is shown as it is
abbrev pub plain_byte : ℕ → Option ℕ
plain_byte byte = if is_hidden byte then None else Some byte

-- the first byte that a text shows, and the text behind it: `%` and two digits are that byte
abbrev pub next_byte : List ℕ → Option (ℕ × List ℕ)
next_byte [] = None
next_byte (b ∷ []) = option_map (λ n. (n, [])) (plain_byte b)
next_byte (b ∷ h ∷ []) = option_map (λ n. (n, h ∷ [])) (plain_byte b)
next_byte (b ∷ h ∷ l ∷ rest) =
    if b == 37 then option_map (λ n. (n, rest)) (byte_said h l) else option_map (λ n. (n, h ∷ l ∷ rest)) (plain_byte b)

abbrev pub pushed : Option ℕ → Option (List ℕ) → Option (List ℕ)
pushed byte bytes = option_and_then (λ b. option_map (λ bs. b ∷ bs) bytes) byte

-- the bytes that a text shows, byte by byte
abbrev pub unshown : List ℕ → Option (List ℕ)
unshown [] = Some []
unshown (b ∷ []) = pushed (plain_byte b) (Some [])
unshown (b ∷ h ∷ []) = pushed (plain_byte b) (unshown (h ∷ []))
unshown (b ∷ h ∷ l ∷ rest) = if b == 37 then pushed (byte_said h l) (unshown rest) else pushed (plain_byte b) (unshown (h ∷ l ∷ rest))

-- the word that a text shows: `-` is the empty one, and a text that begins with `!` shows none
abbrev pub word_said : List ℕ → Option (List ℕ)
word_said [] = None
word_said (b ∷ []) = if b == 45 then Some [] else if b == 33 then None else unshown (b ∷ [])
word_said (b ∷ next ∷ rest) = if b == 33 then None else unshown (b ∷ next ∷ rest)

-- ---- Data

-- the rest that is shown behind `!`: one byte or more
abbrev pub rest_said : List ℕ → Option (List ℕ)
rest_said [] = None
rest_said (byte ∷ bytes) = unshown (byte ∷ bytes)

abbrev pub ended : List ℕ → List ℕ
ended part = part ++ 0 ∷ []

-- the last word of some data is a part, or the rest that no zero ends
abbrev pub last_said : List ℕ → Option (List ℕ)
last_said [] = None
last_said (byte ∷ bytes) = if byte == 33 then rest_said bytes else option_map ended (word_said (byte ∷ bytes))

abbrev pub before_said : Option (List ℕ) → Option (List ℕ) → Option (List ℕ)
before_said part later = option_and_then (λ p. option_map (λ d. ended p ++ d) later) part

-- the data that words show, a part each
abbrev pub data_said : List (List ℕ) → Option (List ℕ)
data_said [] = Some []
data_said (word ∷ []) = last_said word
data_said (word ∷ next ∷ more) = before_said (word_said word) (data_said (next ∷ more))

-- a command, or an event: SERVICE NAME ARGS
abbrev pub named_as : List ℕ → List ℕ → List ℕ → Named
named_as service name body = record { service = service; name = name; body = body }

abbrev pub named_said : List (List ℕ) → Option Named
named_said [] = None
named_said (service ∷ []) = None
named_said (service ∷ name ∷ args) =
    option_and_then (λ s. option_and_then (λ n. option_map (named_as s n) (data_said args)) (word_said name)) (word_said service)

-- ---- What is written is read

-- the words of some data: its parts, and the rest behind `!`, where there is one
abbrev pub rest_words : List ℕ → List (List ℕ)
rest_words [] = []
rest_words (byte ∷ bytes) = (33 ∷ flat_map shown_byte (byte ∷ bytes)) ∷ []

abbrev pub parts_words : List (List ℕ) → List (List ℕ)
parts_words [] = []
parts_words (rest ∷ []) = rest_words rest
parts_words (part ∷ next ∷ more) = readable part ∷ parts_words (next ∷ more)

abbrev pub data_words : List ℕ → List (List ℕ)
data_words body = parts_words (slice_split (λ byte. byte == 0) body)

abbrev pub IsByte : ℕ → Type 0
IsByte byte = byte < 256

-- the bytes of a word: none is zero
abbrev pub AreShown : List ℕ → Type 0
AreShown bytes = AllByRecursion (λ b. (0 < b) × (b < 256)) bytes

-- the law: a word that is written is read
abbrev pub WordsAreReadBack : Type 0
WordsAreReadBack = (word : List ℕ) → AreShown word → word_said (readable word) ≡ Some word

-- the law: data that is written is read
abbrev pub DataAreReadBack : Type 0
DataAreReadBack = (body : List ℕ) → AllByRecursion IsByte body → data_said (data_words body) ≡ Some body
