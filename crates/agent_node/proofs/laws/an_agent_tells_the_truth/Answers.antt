use Rattle.agent_node.proofs.TheLaws.{agent_tells_the_truth}
use Rattle.agent_node.proofs.laws.an_agent_tells_the_truth.Goals as goal

pub returns : goal.returns
returns c = agent_tells_the_truth
