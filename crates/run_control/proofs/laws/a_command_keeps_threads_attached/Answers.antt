use Rattle.run_control.proofs.TheLaws.{commands_keep_sound}
use Rattle.run_control.proofs.laws.a_command_keeps_threads_attached.Goals as goal

pub returns : goal.returns
returns c = commands_keep_sound
