-- The words of a line, which single blanks separate.
use Rattle.std.specs.Prelude.{ℕ, ◌==◌, ◌%◌, ◌&&◌, ◌||◌, Bool, not, List, [], ◌∷◌, ◌++◌, length, flat_map, slice_index, if◌then◌else◌, nat_lt, nat_le, codes, bytes_eq, Result, Ok, Err}
use Rattle.std.specs.Char.{is_ascii_alphanumeric, is_ascii_digit}
use Rattle.std.specs.Int.{is_in_range}
use Rattle.std.specs.List.{list_all}
use Rattle.hex.specs.Hex.{decode_of}
pub use Rattle.line_words.specs.Words.{words_of}
use Rattle.hex.specs.declared.error.FromHexError.{FromHexError}

-- ---- Words and lines

-- 1 to 16 ASCII letters and digits
abbrev pub is_name : List ℕ → Bool
is_name name = nat_lt 0 (length name) && nat_le (length name) 16 && list_all is_ascii_alphanumeric name

-- the decimal digits of a number of any size, without a leading zero
abbrev pub is_numeral : List ℕ → Bool
is_numeral digits =
    nat_lt 0 (length digits) && list_all is_ascii_digit digits && (length digits == 1 || not (slice_index digits 0 == 48))

-- ---- Parts of data

-- the word for an empty part of data, and for no byte of an image
unfoldable pub dash_word : List ℕ
dash_word = codes "-"

-- the part that a word says, and the zero that ends it
abbrev pub part_text : List ℕ → List ℕ
part_text word = (if bytes_eq word dash_word then [] else word) ++ 0 ∷ []

-- the data that the words of a command say, part by part
abbrev pub data_of : List (List ℕ) → List ℕ
data_of words = flat_map part_text words

-- ---- The bytes of an image

-- a lower-case hexadecimal digit
abbrev pub is_low_hex : ℕ → Bool
is_low_hex byte = is_in_range 48 57 byte || is_in_range 97 102 byte

-- an even number of digits, or the word for no byte
abbrev pub is_hex_word : List ℕ → Bool
is_hex_word digits =
    bytes_eq digits dash_word || (nat_lt 0 (length digits) && length digits % 2 == 0 && list_all is_low_hex digits)

abbrev pub bytes_or_none : Result (List ℕ) FromHexError → List ℕ
bytes_or_none (Ok bytes) = bytes
bytes_or_none (Err fault) = []

-- the bytes that the digits say, two digits a byte with the high four bits first
abbrev pub bytes_of : List ℕ → List ℕ
bytes_of digits = if bytes_eq digits dash_word then [] else bytes_or_none (decode_of digits)
