use Rattle.hub_node.proofs.TheLaws.{closes_with_the_hub}
use Rattle.hub_node.proofs.laws.a_hub_closes_whole.Goals as goal

pub returns : goal.returns
returns c = closes_with_the_hub
