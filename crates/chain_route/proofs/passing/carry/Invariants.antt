use Rattle.std.proofs.Common.{◌≡◌, length}
use Rattle.chain_route.specs.Hop.{sent_from}
use Rattle.chain_route.specs.Passing.{emptied, queued_at}
use Rattle.chain_route.proofs.passing.carry.Given as goal

-- what is queued yet and then all come to the same, and the value-add without its queue is the same
abbrev pub invariant-loop-out : goal.invariant-loop-out
invariant-loop-out l = record {
  add : emptied l.side l.add ≡ emptied l.side l.initial.add;
  hop : sent_from l.side (queued_at l.side l.add) l.hop ≡ sent_from l.side (queued_at l.side l.initial.add) l.initial.hop;
}

abbrev pub decreases-loop-out : goal.decreases-loop-out
decreases-loop-out l = length (queued_at l.side l.add)
