use Rattle.tcf_schedules.proofs.Scripts.{scripts_are_fit}
use Rattle.tcf_schedules.proofs.laws.scripts_are_fit.Goals as goal

pub returns : goal.returns
returns c = scripts_are_fit
