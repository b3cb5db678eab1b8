use Rattle.channel_core.proofs.Drained.{gives_each}
use Rattle.channel_core.proofs.laws.every_pending_tag_is_drained.Goals as goal

pub returns : goal.returns
returns g c = gives_each
