use Rattle.channel_laws.proofs.TheLaws.{hears_the_end}
use Rattle.channel_laws.proofs.laws.the_end_of_a_queue_is_heard.Goals as goal

pub returns : goal.returns
returns g c = hears_the_end
