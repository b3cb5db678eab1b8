use Rattle.channel_core.proofs.TheLaws.{queues_its_messages, queues_no_command, queues_what_is_sent}
use Rattle.channel_core.proofs.laws.only_what_is_sent_is_queued.Goals as goal

pub returns : goal.returns
returns g c = record { plain = queues_what_is_sent; none = queues_no_command; messages = queues_its_messages }
