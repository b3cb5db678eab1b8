-- Error reports (TCF protocol, error reports).
use Rattle.std.specs.Prelude.{[], Option, option_map, option_and_then, codes}
use Rattle.serde_json.specs.Data.{Data, string, object, member, no_members}
use Rattle.serde_json.specs.Find.{as_str}
use Rattle.json_args.specs.Kinds.{IsWhole, whole_in}
use Rattle.json_values.specs.Members.{member_of, or_else}
use Rattle.json_values.specs.Plain.{whole_json}
use Rattle.tcf_values.specs.declared.errors.ErrorReport.{ErrorReport}

abbrev pub IsReport : ErrorReport → Type 0
IsReport report = IsWhole report.code

abbrev pub report_json : ErrorReport → Data
report_json report = object (member (codes "Code") (whole_json report.code) (member (codes "Format") (string report.format) no_members))

-- a code must be there; a format that is absent is empty
abbrev pub report_in : Data → Option ErrorReport
report_in d =
    option_and_then (λ code. option_map (λ format. record { code = code; format = format })
    (or_else [] as_str (member_of (codes "Format") d)))
    (option_and_then whole_in (member_of (codes "Code") d))
