-- The hub as it is seen.
use Rattle.std.specs.Prelude.{Bool, false, List, []}
use Rattle.target_contexts.specs.Starting.{new_targets}
use Rattle.target_contexts.specs.declared.process.Image.{Image}
pub use Rattle.run_control.specs.TargetValue.{TargetValue}

-- the target, and whether memory was wanting in a call
pub record HubValue : Type 0 where
  pub target : TargetValue
  pub is_spent : Bool

abbrev pub usable : TargetValue → HubValue
usable target = record { target = target; is_spent = false }

-- with these images, and nothing else yet
abbrev pub new_target : List Image → TargetValue
new_target images = record { contexts = new_targets images; breakpoints = [] }
