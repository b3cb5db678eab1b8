use Rattle.tcf_schedules.proofs.Values.{reads_the_text}
use Rattle.tcf_schedules.proofs.laws.reads_the_text.Goals as goal

pub returns : goal.returns
returns c = reads_the_text
