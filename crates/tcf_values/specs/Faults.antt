-- Why a command fails where it is executed (TCF protocol, error reports).
use Rattle.std.specs.Prelude.{ℕ, ◌≡◌, Bool, List, [], ◌∷◌, Option, Some, None, if◌then◌else◌}
use Rattle.tcf_values.specs.declared.faults.Fault.{Fault}
use Rattle.tcf_values.specs.declared.faults.Fault.TheVariants.{Other, AlreadyStopped, AlreadyRunning, AlreadyAttached, IsRunning, BadSize, BadContext, BadAddress, BadNumber, Unsupported}
use Rattle.tcf_values.specs.declared.faults.Refusal.{Refusal}
use Rattle.tcf_values.specs.declared.faults.Refusal.TheVariants.{Due, NoMemory}

-- the code of its report
abbrev pub code_of : Fault → ℕ
code_of Other = 1
code_of AlreadyStopped = 10
code_of AlreadyRunning = 12
code_of AlreadyAttached = 13
code_of IsRunning = 14
code_of BadSize = 15
code_of BadContext = 16
code_of BadAddress = 17
code_of BadNumber = 20
code_of Unsupported = 23

-- the first check that fails; each stands beside what it means
abbrev pub first_fault : List (Bool × Fault) → Option Fault
first_fault [] = None
first_fault (check ∷ checks) = if check.0 then Some check.1 else first_fault checks

-- a refusal is the fault that is due, or want of memory
abbrev pub IsDue : Option Fault → Refusal → Type 0
IsDue due (Due fault) = due ≡ Some fault
IsDue due NoMemory = Unit {0}
