use Rattle.run_control.proofs.Counted.{commands_count_alone, commands_keep_list, ticks_count_alone, ticks_keep_list}
use Rattle.run_control.proofs.laws.only_counts_change.Goals as goal

pub returns-clause-commands : goal.returns-clause-commands
returns-clause-commands c = commands_count_alone

pub returns-clause-ticks : goal.returns-clause-ticks
returns-clause-ticks c = ticks_count_alone

pub returns-clause-commands_keep : goal.returns-clause-commands_keep
returns-clause-commands_keep c = commands_keep_list

pub returns-clause-ticks_keep : goal.returns-clause-ticks_keep
returns-clause-ticks_keep c = ticks_keep_list
