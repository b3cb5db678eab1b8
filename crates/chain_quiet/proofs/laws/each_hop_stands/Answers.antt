use Rattle.chain_quiet.proofs.TheLaws.{each_hop_stands}
use Rattle.chain_quiet.proofs.laws.each_hop_stands.Goals as goal

pub returns : goal.returns
returns g c = each_hop_stands
