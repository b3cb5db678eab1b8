use Rattle.target_hub.proofs.TheLaws.{closings_tell_no_hello, commands_tell_no_hello, ticks_tell_no_hello}
use Rattle.target_hub.proofs.laws.no_event_is_a_hello.Goals as goal

pub returns : goal.returns
returns c = record { commands = commands_tell_no_hello; ticks = ticks_tell_no_hello; closings = closings_tell_no_hello }
