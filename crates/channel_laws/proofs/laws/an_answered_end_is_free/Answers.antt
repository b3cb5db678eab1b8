use Rattle.channel_laws.proofs.TheLaws.{answered_end_is_free}
use Rattle.channel_laws.proofs.laws.an_answered_end_is_free.Goals as goal

pub returns : goal.returns
returns g c = answered_end_is_free
