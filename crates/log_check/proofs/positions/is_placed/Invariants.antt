use Rattle.std.proofs.Common.{length}
use Rattle.log_check.proofs.Placing.{StandBefore}
use Rattle.log_check.proofs.positions.is_placed.Given as goal

abbrev pub invariant-loop-line : goal.invariant-loop-line
invariant-loop-line l = StandBefore l.inputs l.lines l.left l.marks

abbrev pub decreases-loop-line : goal.decreases-loop-line
decreases-loop-line l = length l.left
