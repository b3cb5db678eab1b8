use Rattle.tcf_schedules.proofs.TheLaws.{reads_within}
use Rattle.tcf_schedules.proofs.laws.what_is_read_is_within.Goals as goal

pub returns : goal.returns
returns c = reads_within
