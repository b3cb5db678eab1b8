use Rattle.agent_serving.proofs.TheLaws.{served_is_an_agent}
use Rattle.agent_serving.proofs.laws.what_is_served_is_an_agent.Goals as goal

pub returns : goal.returns
returns c = served_is_an_agent
