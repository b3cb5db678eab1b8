-- The laws of running, as terms.
use Rattle.run_control.specs.Laws.{CommandsCountAlone, CommandsKeepList, CommandsKeepOrder, CommandsKeepSound, TicksCountAlone, TicksKeepList, TicksKeepOrder, TicksKeepSound}
use Rattle.run_control.specs.Short.{CommandsKeepShort, TicksKeepShort}
use Rattle.run_control.proofs.Commanded.{commands_sound}
use Rattle.run_control.proofs.Counted.{commands_count_alone, commands_keep_list, ticks_count_alone, ticks_keep_list}
use Rattle.run_control.proofs.Orderly.{run_orderly, tick_orderly}
use Rattle.run_control.proofs.Short.{commands_short, ticks_short}
use Rattle.run_control.proofs.Touched.{ticks_sound}

pub commands_keep_sound : CommandsKeepSound
commands_keep_sound = commands_sound

pub ticks_keep_sound : TicksKeepSound
ticks_keep_sound = ticks_sound

pub commands_keep_order : CommandsKeepOrder
commands_keep_order = run_orderly

pub ticks_keep_order : TicksKeepOrder
ticks_keep_order = tick_orderly

pub commands_keep_short : CommandsKeepShort
commands_keep_short = commands_short

pub ticks_keep_short : TicksKeepShort
ticks_keep_short = ticks_short

pub commands_change_counts : CommandsCountAlone
commands_change_counts = commands_count_alone

pub ticks_change_counts : TicksCountAlone
ticks_change_counts = ticks_count_alone

pub commands_list : CommandsKeepList
commands_list = commands_keep_list

pub ticks_list : TicksKeepList
ticks_list = ticks_keep_list
