use Rattle.run_control.proofs.TheLaws.{commands_keep_short, ticks_keep_short}
use Rattle.run_control.proofs.lengths.the_processes_stay_short.Goals as goal

pub returns : goal.returns
returns c = record { commands = commands_keep_short; ticks = ticks_keep_short }
