use Rattle.chain_route.proofs.TheLaws.{all_arrive_at_adds}
use Rattle.chain_route.proofs.laws.all_arrive_at_adds.Goals as goal

pub returns : goal.returns
returns c = all_arrive_at_adds
