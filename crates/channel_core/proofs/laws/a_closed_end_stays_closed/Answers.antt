use Rattle.channel_core.proofs.TheLaws.{ends_once, stays_closed}
use Rattle.channel_core.proofs.laws.a_closed_end_stays_closed.Goals as goal

pub returns : goal.returns
returns g c = record { once = ends_once; stays = stays_closed }
