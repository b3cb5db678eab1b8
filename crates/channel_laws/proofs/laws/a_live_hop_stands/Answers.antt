use Rattle.channel_laws.proofs.TheLaws.{live_hops_stand}
use Rattle.channel_laws.proofs.laws.a_live_hop_stands.Goals as goal

pub returns : goal.returns
returns g c = live_hops_stand
