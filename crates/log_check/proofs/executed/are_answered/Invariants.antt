use Rattle.std.proofs.Common.{drop, length}
use Rattle.std.specs.Prelude.{flat_map}
use Rattle.target_hub.specs.Received.{answer_of}
use Rattle.log_check.specs.Matching.{NumbersAreFront, passing_numbers}
use Rattle.log_check.specs.Sorts.{as_accepted}
use Rattle.log_check.proofs.Running.{Against}
use Rattle.log_check.proofs.executed.are_answered.Given as goal

abbrev pub invariant-loop-line : goal.invariant-loop-line
invariant-loop-line l =
    Against NumbersAreFront (flat_map (answer_of (as_accepted l.commands)) l.lines) (passing_numbers l.commands) (flat_map (answer_of (as_accepted l.commands)) l.left) (passing_numbers (drop l.done l.commands))

abbrev pub decreases-loop-line : goal.decreases-loop-line
decreases-loop-line l = length l.left
