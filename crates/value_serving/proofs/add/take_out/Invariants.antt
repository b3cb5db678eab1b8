use Rattle.std.proofs.Common.{length}
use Rattle.value_serving.specs.Adds.{queue_on}
use Rattle.value_serving.proofs.Emptying.{TakesOut}
use Rattle.value_serving.proofs.add.take_out.Given as goal

-- what was taken out, and what is still there
abbrev pub invariant-loop-outgoing : goal.invariant-loop-outgoing
invariant-loop-outgoing l = TakesOut l.side l.fn.node l.node l.bytes

abbrev pub decreases-loop-outgoing : goal.decreases-loop-outgoing
decreases-loop-outgoing l = length (queue_on l.side l.node)
