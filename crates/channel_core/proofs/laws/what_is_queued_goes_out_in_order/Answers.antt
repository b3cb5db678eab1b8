use Rattle.channel_core.proofs.TheLaws.{queues_in_order}
use Rattle.channel_core.proofs.laws.what_is_queued_goes_out_in_order.Goals as goal

pub returns : goal.returns
returns g c = queues_in_order
