use Rattle.load_schedules.proofs.TheLaws.{generates_what_is_said}
use Rattle.load_schedules.proofs.laws.generates_what_is_said.Goals as goal

pub returns : goal.returns
returns c = generates_what_is_said
