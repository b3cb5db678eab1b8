use Rattle.channel_laws.proofs.TheLaws.{asks_nothing_waits_for_nothing}
use Rattle.channel_laws.proofs.laws.who_asks_nothing_waits_for_nothing.Goals as goal

pub returns : goal.returns
returns g c = asks_nothing_waits_for_nothing
