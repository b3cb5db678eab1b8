use Rattle.run_control.proofs.TheLaws.{commands_keep_order, ticks_keep_order}
use Rattle.run_control.proofs.laws.the_processes_stay_orderly.Goals as goal

pub returns-clause-commands : goal.returns-clause-commands
returns-clause-commands c = commands_keep_order

pub returns-clause-ticks : goal.returns-clause-ticks
returns-clause-ticks c = ticks_keep_order
