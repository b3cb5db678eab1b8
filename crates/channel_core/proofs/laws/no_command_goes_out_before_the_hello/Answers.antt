use Rattle.channel_core.proofs.TheLaws.{waits_for_hello}
use Rattle.channel_core.proofs.laws.no_command_goes_out_before_the_hello.Goals as goal

pub returns : goal.returns
returns g c = waits_for_hello
