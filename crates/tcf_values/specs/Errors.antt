-- The codes of this profile and the text of each (TCF protocol, error reports).
use Rattle.std.specs.Prelude.{ℕ, pos, ◌==◌, List, [], Option, Some, None, unwrap_or, if◌then◌else◌, codes}
use Rattle.std.specs.Option.{option_or}
use Rattle.tcf_values.specs.declared.errors.ErrorReport.{ErrorReport}

abbrev pub low_format_of : ℕ → Option (List ℕ)
low_format_of code =
    if code == 1 then Some (codes "other")
    else if code == 2 then Some (codes "json-syntax")
    else if code == 3 then Some (codes "protocol")
    else if code == 5 then Some (codes "channel-closed")
    else if code == 7 then Some (codes "unknown-peer")
    else if code == 8 then Some (codes "base64")
    else if code == 10 then Some (codes "already-stopped")
    else None

abbrev pub high_format_of : ℕ → Option (List ℕ)
high_format_of code =
    if code == 12 then Some (codes "already-running")
    else if code == 13 then Some (codes "already-attached")
    else if code == 14 then Some (codes "is-running")
    else if code == 15 then Some (codes "bad-size")
    else if code == 16 then Some (codes "bad-context")
    else if code == 17 then Some (codes "bad-address")
    else if code == 20 then Some (codes "bad-number")
    else if code == 23 then Some (codes "unsupported")
    else None

-- the text of a code; none where the profile has no such code
abbrev pub format_of : ℕ → Option (List ℕ)
format_of code = option_or (low_format_of code) (high_format_of code)

-- the report of a code of the profile
abbrev pub report_of : ℕ → ErrorReport
report_of code = record { code = pos code; format = unwrap_or (format_of code) [] }
