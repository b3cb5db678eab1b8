use Rattle.tcf_schedules.proofs.FirstBad.{refuses_the_first}
use Rattle.tcf_schedules.proofs.laws.refuses_the_first.Goals as goal

pub returns : goal.returns
returns c = refuses_the_first
