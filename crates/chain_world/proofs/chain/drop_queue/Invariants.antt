use Rattle.std.proofs.Common.{◌≡◌, length}
use Rattle.agent_node.specs.Agent.{channel_of}
use Rattle.agent_node.specs.Channels.{end_in}
use Rattle.chain_world.specs.Chain.{agent_emptied, queue_of}
use Rattle.chain_world.proofs.chain.drop_queue.Given as goal

-- the agent without that queue is the same
abbrev pub invariant-loop : goal.invariant-loop
invariant-loop l = agent_emptied l.k l.agent ≡ agent_emptied l.k l.initial.agent

abbrev pub decreases-loop : goal.decreases-loop
decreases-loop l = length (queue_of (end_in (channel_of l.k l.agent)))
