-- What a written command is read as again.
use Rattle.std.specs.Prelude.{ℕ, ◌≡◌, List, Some}
use Rattle.std.specs.List.{AllByRecursion}
use Rattle.base64.specs.Engines.{standard}
use Rattle.base64.specs.GeneralPurpose.{decoded_of, encode_of}
use Rattle.serde_json.specs.Data.{Data}
use Rattle.serde_json.specs.Written.{compact_text}
use Rattle.json_args.specs.Kinds.{json_of}
use Rattle.tcf_values.specs.declared.command.Command.{Command}
use Rattle.tcf_values.specs.declared.command.Command.TheVariants.{MemSet, RegSet, RegSetm}

-- the text of each value is read as the value
abbrev pub TextsRead : List Data → Type 0
TextsRead values = AllByRecursion (λ d. json_of (compact_text d) ≡ Some d) values

-- the base64 of these bytes stands for them
abbrev pub Decodes : List ℕ → Type 0
Decodes bytes = decoded_of standard (encode_of standard bytes) ≡ Some bytes

abbrev pub BytesDecode : Command → Type 0
BytesDecode (MemSet id addr word size mode bytes) = Decodes bytes
BytesDecode (RegSet id bytes) = Decodes bytes
BytesDecode (RegSetm list bytes) = Decodes bytes
BytesDecode _ = Unit {0}
