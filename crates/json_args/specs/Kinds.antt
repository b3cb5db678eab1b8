-- What a part is read as: JSON (RFC 8259) by `serde_json`, then a kind; `null` is the empty text, false or no texts.
use Rattle.std.specs.Prelude.{ℕ, ℤ, pos, negsuc, ◌<◌, ◌^◌, Bool, false, List, [], ◌∷◌, slice_get, Option, Some, None, option_map, option_and_then, Result, Ok, Err, if◌then◌else◌}
use Rattle.std.specs.Option.{ok_or}
use Rattle.std.specs.Str.{is_utf8}
use Rattle.base64.specs.GeneralPurpose.{decoded_of}
use Rattle.base64.specs.Engines.{standard}
use Rattle.serde_json.specs.Data.{Data, null, boolean, number, string, array, Items, no_items, item}
use Rattle.serde_json.specs.Find.{as_integer, as_str}
use Rattle.serde_json.specs.Read.{read}
use Rattle.json_args.specs.declared.fault.ArgFault.{ArgFault}
use Rattle.json_args.specs.declared.fault.ArgFault.TheVariants.{Missing, Syntax, Shape, Base64}

-- the JSON value of a part: an empty part is null, and one that isn't UTF-8 is none
unfoldable pub json_of : List ℕ → Option Data
json_of [] = Some null
json_of (b ∷ part) = if is_utf8 (b ∷ part) then read (b ∷ part) else None

-- the text that a value stands for
abbrev pub text_in : Data → Option (List ℕ)
text_in null = Some []
text_in (string text) = Some text
text_in _ = None

-- a number that fits a u64 or an i64
abbrev pub IsWhole : ℤ → Type 0
IsWhole (pos n) = n < 2 ^ 64
IsWhole (negsuc n) = n < 2 ^ 63

-- the whole number
abbrev pub whole_in : Data → Option ℤ
whole_in (number n) = as_integer n
whole_in _ = None

abbrev pub flag_in : Data → Option Bool
flag_in null = Some false
flag_in (boolean b) = Some b
flag_in _ = None

-- the texts of an array's items, each of which is a string
abbrev pub strings_in : Items → Option (List (List ℕ))
strings_in no_items = Some []
strings_in (item d items) = option_and_then (λ text. option_map (λ texts. text ∷ texts) (strings_in items)) (as_str d)

abbrev pub texts_in : Data → Option (List (List ℕ))
texts_in null = Some []
texts_in (array items) = strings_in items
texts_in _ = None

abbrev pub value_of : ℕ → Option (List ℕ) → Result Data ArgFault
value_of index None = Err (Missing index)
value_of index (Some part) = ok_or (json_of part) (Syntax index)

-- the value of the part at the index, or the fault
abbrev pub value_at : List (List ℕ) → ℕ → Result Data ArgFault
value_at parts index = value_of index (slice_get parts index)

-- a value as a kind
abbrev pub shaped : {A : Type 0} → (Data → Option A) → ℕ → Result Data ArgFault → Result A ArgFault
shaped kind index (Ok d) = ok_or (kind d) (Shape index)
shaped kind index (Err fault) = Err fault

abbrev pub text_at : List (List ℕ) → ℕ → Result (List ℕ) ArgFault
text_at parts index = shaped text_in index (value_at parts index)

abbrev pub whole_at : List (List ℕ) → ℕ → Result ℤ ArgFault
whole_at parts index = shaped whole_in index (value_at parts index)

abbrev pub flag_at : List (List ℕ) → ℕ → Result Bool ArgFault
flag_at parts index = shaped flag_in index (value_at parts index)

abbrev pub texts_at : List (List ℕ) → ℕ → Result (List (List ℕ)) ArgFault
texts_at parts index = shaped texts_in index (value_at parts index)

-- the bytes that a text in padded standard base64 stands for (RFC 4648, section 4)
abbrev pub bytes_of : ℕ → Result (List ℕ) ArgFault → Result (List ℕ) ArgFault
bytes_of index (Ok text) = ok_or (decoded_of standard text) (Base64 index)
bytes_of index (Err fault) = Err fault

abbrev pub blob_at : List (List ℕ) → ℕ → Result (List ℕ) ArgFault
blob_at parts index = bytes_of index (text_at parts index)
