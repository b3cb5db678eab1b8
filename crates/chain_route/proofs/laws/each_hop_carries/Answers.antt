use Rattle.chain_route.proofs.TheLaws.{each_hop_carries, each_hop_carries_by_calls}
use Rattle.chain_route.proofs.laws.each_hop_carries.Goals as goal

pub returns : goal.returns
returns c = record { carries = each_hop_carries; made = each_hop_carries_by_calls }
