use Rattle.agent_node.proofs.Idle.{when_turn_is_nothing}
use Rattle.agent_node.proofs.agent.AgentNode.turn.Goals as goal

pub returns-else-is_err-clause-nothing : goal.returns-else-is_err-clause-nothing
returns-else-is_err-clause-nothing c = when_turn_is_nothing _ _ _ _ _ c.in_ok-fresh.ensures.same c.try_turn-answer.ensures.turned
