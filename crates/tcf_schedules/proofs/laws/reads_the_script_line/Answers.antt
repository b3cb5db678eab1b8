use Rattle.tcf_schedules.proofs.Scripts.{reads_the_script_line}
use Rattle.tcf_schedules.proofs.laws.reads_the_script_line.Goals as goal

pub returns : goal.returns
returns c = reads_the_script_line
