use Rattle.tcf_schedules.proofs.Scripts.{refuses_the_script}
use Rattle.tcf_schedules.proofs.laws.refuses_the_script.Goals as goal

pub returns : goal.returns
returns c = refuses_the_script
