use Rattle.std.proofs.Common.{length}
use Rattle.log_check.proofs.Onces.{OnceBefore}
use Rattle.log_check.proofs.once.Asked.take_all.Given as goal

abbrev pub invariant-loop-line : goal.invariant-loop-line
invariant-loop-line l = OnceBefore l.lines l.left l.self

abbrev pub decreases-loop-line : goal.decreases-loop-line
decreases-loop-line l = length l.left
