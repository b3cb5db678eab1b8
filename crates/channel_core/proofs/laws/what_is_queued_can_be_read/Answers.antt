use Rattle.channel_core.proofs.TheLaws.{queues_readable}
use Rattle.channel_core.proofs.laws.what_is_queued_can_be_read.Goals as goal

pub returns : goal.returns
returns g c = queues_readable
