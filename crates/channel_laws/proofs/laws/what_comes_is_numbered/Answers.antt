use Rattle.channel_laws.proofs.TheLaws.{what_comes_is_numbered}
use Rattle.channel_laws.proofs.laws.what_comes_is_numbered.Goals as goal

pub returns : goal.returns
returns g c = what_comes_is_numbered
