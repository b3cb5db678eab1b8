-- What Processes tells of a process (TCF service Processes, properties of contexts).
use Rattle.std.specs.Prelude.{false, [], Option, option_map, option_and_then, codes}
use Rattle.serde_json.specs.Data.{Data, boolean, string, object, member, no_members}
use Rattle.serde_json.specs.Find.{as_bool, as_str}
use Rattle.json_values.specs.Members.{member_of, or_else}
use Rattle.tcf_values.specs.declared.values.ProcessData.{ProcessData}

abbrev pub process_json : ProcessData → Data
process_json process =
    object (member (codes "Attached") (boolean process.attached)
    (member (codes "CanTerminate") (boolean process.can_terminate)
    (member (codes "ID") (string process.id)
    (member (codes "Name") (string process.name) no_members))))

-- an ID must be there; a name that is absent is empty, and a flag false
abbrev pub process_in : Data → Option ProcessData
process_in d =
    option_and_then (λ id. option_and_then (λ name. option_and_then (λ attached. option_map (λ can_terminate.
    record { id = id; name = name; attached = attached; can_terminate = can_terminate })
    (or_else false as_bool (member_of (codes "CanTerminate") d)))
    (or_else false as_bool (member_of (codes "Attached") d)))
    (or_else [] as_str (member_of (codes "Name") d)))
    (option_and_then as_str (member_of (codes "ID") d))
