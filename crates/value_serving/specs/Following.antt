-- How far a value-add has come with a message that it takes, by the calls of the wires, and what the outboxes are then.
use Rattle.std.specs.Prelude.{ℕ, Bool, if◌then◌else◌, List}
use Rattle.serving_wires.specs.Calls.{Makes}
use Rattle.serving_wires.specs.Going.{BreaksOff, Goes}
use Rattle.serving_wires.specs.OutboxValue.{OutboxValue}
use Rattle.serving_wires.specs.Process.{Process, done}
use Rattle.serving_wires.specs.Row.{Row}
use Rattle.tcf_wires.specs.Told.{WiresSeen}
use Rattle.tcf_wires.specs.declared.call.WireCall.{WireCall}
use Rattle.value_serving.specs.Adds.{one_taken}
use Rattle.value_serving.specs.Passing.{after_turn}
use Rattle.value_serving.specs.declared.add.Add.{Add}

-- a turn, whatever follows it if a message was taken
abbrev pub GoesBehind : List ℕ → ℕ → ℕ → Add → Add → Bool → List (Row OutboxValue) → List (Row OutboxValue) → List WireCall → Type 0
GoesBehind peer unused later old new is_taken olds news calls = (follows : Add → Process Add)
    → Goes peer unused later (after_turn (one_taken old.node) old follows) (if is_taken then follows new else done new) olds news calls

abbrev pub BreaksOffBehind : List ℕ → ℕ → Add → List (Row OutboxValue) → List WireCall → Type 0
BreaksOffBehind peer unused old olds calls = (follows : Add → Process Add) → BreaksOff peer unused (after_turn (one_taken old.node) old follows) olds calls

-- ---- by what is seen of the wires, before it and after it

abbrev pub TakesOne : List ℕ → Add → Add → Bool → List (Row OutboxValue) → List (Row OutboxValue) → WiresSeen → WiresSeen → Type 0
TakesOne peer old new is_taken olds news before after = Makes (GoesBehind peer before.unused after.unused old new is_taken olds news) before after

abbrev pub TakesPart : List ℕ → Add → List (Row OutboxValue) → WiresSeen → WiresSeen → Type 0
TakesPart peer old olds before after = Makes (BreaksOffBehind peer before.unused old olds) before after
