use Rattle.std.proofs.Common.{length}
use Rattle.log_check.proofs.Sorting.{OfSo}
use Rattle.log_check.proofs.sorts.commands_in.Given as goal

abbrev pub invariant-loop-line : goal.invariant-loop-line
invariant-loop-line l = OfSo l.lines l.left l.commands.items

abbrev pub decreases-loop-line : goal.decreases-loop-line
decreases-loop-line l = length l.left
