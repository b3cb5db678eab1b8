-- The canonical JSON of texts, whole numbers, flags and bytes.
use Rattle.std.specs.Prelude.{ℕ, ℤ, Bool, List}
use Rattle.base64.specs.GeneralPurpose.{encode_of}
use Rattle.base64.specs.Engines.{standard}
use Rattle.serde_json.specs.Data.{Data, boolean, number, string}
use Rattle.serde_json.specs.Find.{of_integer}
use Rattle.json_values.specs.Lists.{list_json}

abbrev pub text_json : List ℕ → Data
text_json text = string text

abbrev pub texts_json : List (List ℕ) → Data
texts_json texts = list_json text_json texts

abbrev pub whole_json : ℤ → Data
whole_json z = number (of_integer z)

abbrev pub flag_json : Bool → Data
flag_json b = boolean b

-- padded standard base64 (RFC 4648, section 4)
abbrev pub blob_json : List ℕ → Data
blob_json bytes = string (encode_of standard bytes)
