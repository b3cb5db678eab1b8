use Rattle.channel_core.proofs.TheLaws.{closes_only_so}
use Rattle.channel_core.proofs.laws.an_end_closes_only_so.Goals as goal

pub returns : goal.returns
returns g c = closes_only_so
