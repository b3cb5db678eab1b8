use Rattle.agent_node.proofs.TheLaws.{each_opens_where_it_may}
use Rattle.agent_node.proofs.laws.a_channel_opens_where_it_may.Goals as goal

pub returns : goal.returns
returns c = each_opens_where_it_may
