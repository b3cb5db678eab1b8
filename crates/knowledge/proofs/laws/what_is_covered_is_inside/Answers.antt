use Rattle.knowledge.proofs.Inside.{covered_is_inside}
use Rattle.knowledge.proofs.laws.what_is_covered_is_inside.Goals as goal

pub returns : goal.returns
returns c = covered_is_inside
