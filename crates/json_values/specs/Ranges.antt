-- Ranges of memory (TCF service Memory, event memoryChanged).
use Rattle.std.specs.Prelude.{pos, Option, None, option_map, option_and_then, if◌then◌else◌, codes}
use Rattle.serde_json.specs.Data.{Data, object, member, no_members}
use Rattle.json_args.specs.Kinds.{IsWhole, whole_in}
use Rattle.json_values.specs.Members.{member_of, or_else}
use Rattle.json_values.specs.Plain.{whole_json}
use Rattle.json_values.specs.Words.{is_object}
use Rattle.tcf_values.specs.declared.values.Range.{Range}

abbrev pub IsRange : Range → Type 0
IsRange range = IsWhole range.addr × IsWhole range.size

abbrev pub range_json : Range → Data
range_json range = object (member (codes "addr") (whole_json range.addr) (member (codes "size") (whole_json range.size) no_members))

abbrev pub range_from : Data → Option Range
range_from d =
    option_and_then (λ addr. option_map (λ size. record { addr = addr; size = size })
    (or_else (pos 0) whole_in (member_of (codes "size") d)))
    (or_else (pos 0) whole_in (member_of (codes "addr") d))

-- a number that is absent is 0
abbrev pub range_in : Data → Option Range
range_in d = if is_object d then range_from d else None
