-- What holds of the target after every legal list of inputs.
use Rattle.std.specs.Prelude.{ℕ, ◌≡◌, true, List, []}
use Rattle.breakpoints.specs.Rows.{IsOrderly as AreListed, owned_by}
use Rattle.run_control.specs.Laws.{AreSound}
use Rattle.target_contexts.specs.Live.{IsOrderly}
use Rattle.target_contexts.specs.declared.process.Image.{Image}
use Rattle.target_hub.specs.History.{IsLegal, inputs_after, was_closed}
use Rattle.target_hub.specs.HubValue.{new_target}
use Rattle.target_hub.specs.Limits.{AreReadable}
use Rattle.target_hub.specs.Sendable.{IsBounded}
use Rattle.target_hub.specs.declared.input.Input.{Input}
use Rattle.run_control.specs.TargetValue.{TargetValue}

pub record IsConsistent (target : TargetValue) : Type 0 where
  pub processes : IsOrderly target.contexts.processes target.contexts.next  -- at most 64, under numbers that rise
  pub threads : AreSound target.contexts.processes  -- a suspended one's process is attached
  pub breakpoints : AreListed target.breakpoints  -- at most 256, under IDs that differ
  pub properties : AreReadable target.breakpoints  -- such that a command can give them

abbrev pub StaysConsistent : Type 0
StaysConsistent = (images : List Image) (inputs : List Input) → IsLegal images inputs → IsConsistent (inputs_after inputs (new_target images))

-- a channel that was closed owns no breakpoint, whatever came after
abbrev pub ClosedOwnsNothing : Type 0
ClosedOwnsNothing = (images : List Image) (inputs : List Input) (channel : ℕ) → IsLegal images inputs → was_closed channel inputs ≡ true →
    owned_by channel (inputs_after inputs (new_target images)).breakpoints ≡ []

-- what is told and answered after any legal list of inputs can be sent
abbrev pub StaysBounded : Type 0
StaysBounded = (images : List Image) (inputs : List Input) → IsLegal images inputs → IsBounded (inputs_after inputs (new_target images))
