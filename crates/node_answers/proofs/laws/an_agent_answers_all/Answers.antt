use Rattle.node_answers.proofs.TheLaws.{agent_serves_all}
use Rattle.node_answers.proofs.laws.an_agent_answers_all.Goals as goal

pub returns : goal.returns
returns c = agent_serves_all
