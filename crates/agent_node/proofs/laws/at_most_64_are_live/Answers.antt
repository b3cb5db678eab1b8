use Rattle.agent_node.proofs.TheLaws.{at_most_64_live}
use Rattle.agent_node.proofs.laws.at_most_64_are_live.Goals as goal

pub returns : goal.returns
returns c = at_most_64_live
