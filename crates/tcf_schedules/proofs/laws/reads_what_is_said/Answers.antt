use Rattle.tcf_schedules.proofs.TheLaws.{reads_what_is_said}
use Rattle.tcf_schedules.proofs.laws.reads_what_is_said.Goals as goal

pub returns : goal.returns
returns c = reads_what_is_said
