-- The history of the target: its inputs, in order, and what they make of it.
use Rattle.std.specs.Prelude.{ℕ, ◌≡◌, ◌==◌, Bool, true, false, not, ◌&&◌, List, [], ◌∷◌, ◌++◌, IsSome}
use Rattle.std.specs.List.{list_any}
use Rattle.command_tables.specs.Reading.{IsReading}
use Rattle.target_contexts.specs.declared.process.Image.{Image}
use Rattle.target_hub.specs.Answering.{after_reading}
use Rattle.target_hub.specs.HubValue.{new_target}
use Rattle.target_hub.specs.Passing.{closed, tick_told, ticked}
use Rattle.target_hub.specs.declared.input.Input.{Input}
use Rattle.target_hub.specs.declared.input.Input.TheVariants.{Opened, Executed, Ticked, Closed}
use Rattle.run_control.specs.TargetValue.{TargetValue}

-- ---- what inputs make of the target

abbrev pub input_after : Input → TargetValue → TargetValue
input_after (Opened channel) target = target
input_after (Executed channel reading service name) target = after_reading channel reading target
input_after (Ticked thread) target = ticked thread target
input_after (Closed channel) target = closed channel target

-- one input after the other
abbrev pub inputs_after : List Input → TargetValue → TargetValue
inputs_after [] target = target
inputs_after (input ∷ inputs) target = inputs_after inputs (input_after input target)

-- ---- which inputs there can be

abbrev pub opens : ℕ → Input → Bool
opens channel (Opened other) = other == channel
opens channel (Executed other reading service name) = false
opens channel (Ticked thread) = false
opens channel (Closed other) = false

abbrev pub closes : ℕ → Input → Bool
closes channel (Opened other) = false
closes channel (Executed other reading service name) = false
closes channel (Ticked thread) = false
closes channel (Closed other) = other == channel

abbrev pub was_opened : ℕ → List Input → Bool
was_opened channel inputs = list_any (opens channel) inputs

abbrev pub was_closed : ℕ → List Input → Bool
was_closed channel inputs = list_any (closes channel) inputs

abbrev pub is_live : ℕ → List Input → Bool
is_live channel inputs = was_opened channel inputs && not (was_closed channel inputs)

-- after these inputs, which made this target: a channel opens once, one that executes or closes is live, what it executes
-- is a reading of these names, and a thread that executes an instruction lives and runs
abbrev pub IsAllowed : List Input → TargetValue → Input → Type 0
IsAllowed before target (Opened channel) = was_opened channel before ≡ false
IsAllowed before target (Executed channel reading service name) = (is_live channel before ≡ true) × IsReading service name reading
IsAllowed before target (Ticked thread) = IsSome (tick_told thread target)
IsAllowed before target (Closed channel) = is_live channel before ≡ true

-- each input is allowed after those before it
abbrev pub IsLegal : List Image → List Input → Type 0
IsLegal images inputs = (before : List Input) (input : Input) (rest : List Input) → inputs ≡ before ++ input ∷ rest →
    IsAllowed before (inputs_after before (new_target images)) input
