use Rattle.agent_node.proofs.Idle.{when_tick_is_idle}
use Rattle.agent_node.proofs.agent.AgentNode.tick.Goals as goal

pub returns-else-is_err-clause-nothing : goal.returns-else-is_err-clause-nothing
returns-else-is_err-clause-nothing c = when_tick_is_idle _ _ _ _ _ c.in_ok-fresh.ensures.same c.try_tick-answer.ensures.ticked
