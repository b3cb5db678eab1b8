use Rattle.std.proofs.Common.{length}
use Rattle.log_check.proofs.Sorting.{BareSo}
use Rattle.log_check.proofs.sorts.bare_answers.Given as goal

abbrev pub invariant-loop-line : goal.invariant-loop-line
invariant-loop-line l = BareSo l.lines l.left l.bare

abbrev pub decreases-loop-line : goal.decreases-loop-line
decreases-loop-line l = length l.left
