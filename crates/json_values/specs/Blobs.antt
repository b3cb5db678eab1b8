-- Bytes, which are strings in padded standard base64 (RFC 4648, section 4).
use Rattle.std.specs.Prelude.{ℕ, List, Option, option_and_then}
use Rattle.base64.specs.Engines.{standard}
use Rattle.base64.specs.GeneralPurpose.{decoded_of}
use Rattle.serde_json.specs.Data.{Data}
use Rattle.json_args.specs.Kinds.{text_in}

-- the bytes that a text stands for; null is the empty text, so no bytes
abbrev pub blob_in : Data → Option (List ℕ)
blob_in d = option_and_then (decoded_of standard) (text_in d)
