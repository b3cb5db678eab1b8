-- What holds of the target before a command, and of what the command makes of it, holds of the target after it.
use Rattle.std.proofs.Common.{◌≡◌, Option, Some, None, refl}
use Rattle.tcf_values.specs.declared.faults.Fault.{Fault}
use Rattle.run_control.specs.Commands.{left_of}
use Rattle.run_control.specs.TargetValue.{TargetValue, target_by}

-- where a text names nothing, nothing changes
pub left_keeps : {A T : Type 0} → (P : T → Type 0) (change : A → T → T) (named : Option A) (before : T) → ((one : A) → named ≡ Some one → P (change one before)) → P before → P (left_of change named before)
left_keeps P change None before given is = is
left_keeps P change (Some one) before given is = given one refl

-- nor where a check fails
pub by_keeps : (P : TargetValue → Type 0) (fault : Option Fault) (left target : TargetValue) → (fault ≡ None → P left) → P target → P (target_by fault left target)
by_keeps P None left target given is = given refl
by_keeps P (Some fault) left target given is = is
