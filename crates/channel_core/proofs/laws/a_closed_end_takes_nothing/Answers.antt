use Rattle.channel_core.proofs.TheLaws.{takes_nothing_closed}
use Rattle.channel_core.proofs.laws.a_closed_end_takes_nothing.Goals as goal

pub returns : goal.returns
returns g c = takes_nothing_closed
