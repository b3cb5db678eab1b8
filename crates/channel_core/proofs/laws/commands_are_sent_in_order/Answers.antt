use Rattle.channel_core.proofs.TheLaws.{sends_in_order}
use Rattle.channel_core.proofs.laws.commands_are_sent_in_order.Goals as goal

pub returns : goal.returns
returns g c = sends_in_order
