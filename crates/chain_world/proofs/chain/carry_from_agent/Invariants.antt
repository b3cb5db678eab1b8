use Rattle.std.proofs.Common.{◌≡◌, length}
use Rattle.agent_node.specs.Agent.{channel_of}
use Rattle.agent_node.specs.Channels.{end_in}
use Rattle.chain_world.specs.Chain.{agent_emptied, queue_of}
use Rattle.chain_route.specs.Route.{sent_down}
use Rattle.chain_world.proofs.chain.carry_from_agent.Given as goal

-- what is queued yet and then all come to the same, and the agent without that queue is the same
abbrev pub invariant-loop-out : goal.invariant-loop-out
invariant-loop-out l = record {
  agent : agent_emptied l.k l.agent ≡ agent_emptied l.k l.initial.agent;
  route : sent_down (queue_of (end_in (channel_of l.k l.agent))) l.route ≡ sent_down (queue_of (end_in (channel_of l.k l.initial.agent))) l.initial.route;
}

abbrev pub decreases-loop-out : goal.decreases-loop-out
decreases-loop-out l = length (queue_of (end_in (channel_of l.k l.agent)))
