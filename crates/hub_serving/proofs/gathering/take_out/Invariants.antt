use Rattle.std.proofs.Common.{length}
use Rattle.hub_serving.specs.Gathering.{queue_on}
use Rattle.hub_serving.proofs.Emptying.{TakesOut}
use Rattle.hub_serving.proofs.gathering.take_out.Given as goal

-- what was taken out, and what is still there
abbrev pub invariant-loop-outgoing : goal.invariant-loop-outgoing
invariant-loop-outgoing l = TakesOut l.side l.fn.hub l.hub l.bytes

abbrev pub decreases-loop-outgoing : goal.decreases-loop-outgoing
decreases-loop-outgoing l = length (queue_on l.side l.hub)
