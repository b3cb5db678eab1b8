use Rattle.run_control.proofs.TheLaws.{ticks_keep_sound}
use Rattle.run_control.proofs.laws.a_tick_keeps_threads_attached.Goals as goal

pub returns : goal.returns
returns c = ticks_keep_sound
