use Rattle.hub_node.proofs.TheLaws.{tells_each_its_own}
use Rattle.hub_node.proofs.laws.a_hub_tells_each_its_own.Goals as goal

pub returns : goal.returns
returns c = tells_each_its_own
