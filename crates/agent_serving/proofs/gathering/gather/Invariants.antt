use Rattle.std.proofs.Common.{length}
use Rattle.agent_serving.specs.Gathering.{gathered, queue_on}
use Rattle.agent_serving.proofs.Telling.{Alone}
use Rattle.agent_serving.proofs.gathering.gather.Given as goal

-- the messages so far, and then the others
abbrev pub invariant-loop-outgoing : goal.invariant-loop-outgoing
invariant-loop-outgoing l = Alone (gathered l.channel l.initial.agent) (gathered l.channel l.agent) l.initial.sending l.sending

abbrev pub decreases-loop-outgoing : goal.decreases-loop-outgoing
decreases-loop-outgoing l = length (queue_on l.channel l.agent)
