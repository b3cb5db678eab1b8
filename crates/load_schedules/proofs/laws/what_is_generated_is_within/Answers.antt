use Rattle.load_schedules.proofs.TheLaws.{generates_within}
use Rattle.load_schedules.proofs.laws.what_is_generated_is_within.Goals as goal

pub returns : goal.returns
returns c = generates_within
