use Rattle.channel_laws.proofs.TheLaws.{ends_rest_together}
use Rattle.channel_laws.proofs.laws.two_ends_rest_together.Goals as goal

pub returns : goal.returns
returns g c = ends_rest_together
