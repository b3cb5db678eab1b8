use Rattle.std.proofs.Common.{length}
use Rattle.log_check.proofs.Legality.{LegalBefore}
use Rattle.log_check.proofs.legal.is_legal.Given as goal

abbrev pub invariant-loop-input : goal.invariant-loop-input
invariant-loop-input l = LegalBefore l.images l.inputs l.left l.opened l.closed l.hub

abbrev pub decreases-loop-input : goal.decreases-loop-input
decreases-loop-input l = length l.left
