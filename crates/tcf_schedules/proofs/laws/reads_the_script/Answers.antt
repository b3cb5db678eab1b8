use Rattle.tcf_schedules.proofs.Scripts.{reads_the_script}
use Rattle.tcf_schedules.proofs.laws.reads_the_script.Goals as goal

pub returns : goal.returns
returns c = reads_the_script
