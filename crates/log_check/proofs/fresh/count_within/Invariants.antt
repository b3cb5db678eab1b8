use Rattle.std.proofs.Common.{◌≡◌, ◌+◌, length}
use Rattle.log_check.proofs.Freshness.{WithinSo}
use Rattle.log_check.proofs.fresh.count_within.Given as goal

abbrev pub invariant-loop-barrier : goal.invariant-loop-barrier
invariant-loop-barrier l =
    record {
      so : WithinSo l.barriers l.rest l.position l.count;
      counted : l.count + length l.rest ≡ length l.barriers;
    }

abbrev pub decreases-loop-barrier : goal.decreases-loop-barrier
decreases-loop-barrier l = length l.rest
