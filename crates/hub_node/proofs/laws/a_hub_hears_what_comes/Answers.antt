use Rattle.hub_node.proofs.TheLaws.{hears_what_comes}
use Rattle.hub_node.proofs.laws.a_hub_hears_what_comes.Goals as goal

pub returns : goal.returns
returns c = hears_what_comes
