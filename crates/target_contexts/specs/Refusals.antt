-- Why a command isn't executed.
use Rattle.std.specs.Prelude.{◌≡◌, Option, Some, None}
use Rattle.tcf_values.specs.declared.faults.Fault.{Fault}
use Rattle.tcf_values.specs.declared.faults.Refusal.{Refusal}
use Rattle.tcf_values.specs.declared.faults.Refusal.TheVariants.{Due, NoMemory}

-- the fault that is due is answered whatever the memory, so want of memory comes only where none is due
abbrev pub IsRefusalOf : Option Fault → Refusal → Type 0
IsRefusalOf due (Due fault) = due ≡ Some fault
IsRefusalOf due NoMemory = due ≡ None
