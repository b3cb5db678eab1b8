use Rattle.agent_node.proofs.TheLaws.{agent_has_no_strangers}
use Rattle.agent_node.proofs.laws.an_agent_has_no_strangers.Goals as goal

pub returns : goal.returns
returns c = agent_has_no_strangers
