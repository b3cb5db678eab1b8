-- A command with a fault changes no process and tells nothing; and where there is none, no check of it has failed.
use Rattle.std.proofs.Common.{◌≡◌, Bool, true, false, cond, Option, Some, None, refl, sym}
use Rattle.std.specs.Option.{option_or}
use Rattle.std.proofs.lemmas.Option.{none-some}
use Rattle.target_contexts.specs.Changes.{targets_by}
use Rattle.target_contexts.specs.TargetsValue.{TargetsValue}
use Rattle.run_control.specs.TargetValue.{TargetValue, target_by}
use Rattle.target_truth.proofs.Becoming.{with_contexts}
use Rattle.target_truth.proofs.Tells.{Tell}
use Rattle.tcf_values.specs.Effects.{effect_by, failed}
use Rattle.tcf_values.specs.declared.effect.Effect.{Effect}
use Rattle.tcf_values.specs.declared.faults.Fault.{Fault}

-- what a command tells where no check fails, it tells in all
pub by_fault : (fault : Option Fault) (target : TargetValue) (left : TargetsValue) (given : Effect) → (fault ≡ None → Tell target (with_contexts left target) given.events)
    → Tell target (with_contexts (targets_by fault left target.contexts) target) (effect_by fault given).events
unfolding failed
by_fault None target left given tell = tell refl
by_fault (Some fault) target left given tell = λ fact knows. knows

-- so does one of run control, which may leave other counts of hits too
pub run_by_fault : (fault : Option Fault) (target left : TargetValue) (given : Effect) → (fault ≡ None → Tell target left given.events)
    → Tell target (target_by fault left target) (effect_by fault given).events
unfolding failed
run_by_fault None target left given tell = tell refl
run_by_fault (Some fault) target left given tell = λ fact knows. knows

-- of checks none fails: the first one doesn't, nor one of the others
pub check_passed : (test : Bool) (fault : Fault) (rest : Option Fault) → cond test (Some fault) rest ≡ None → (test ≡ false) × (rest ≡ None)
check_passed true fault rest none = absurd (none-some fault (sym none))
check_passed false fault rest none = (refl, none)

pub both_passed : (one other : Option Fault) → option_or one other ≡ None → (one ≡ None) × (other ≡ None)
both_passed None other none = (refl, none)
both_passed (Some fault) other none = absurd (none-some fault (sym none))
