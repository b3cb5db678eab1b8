use Rattle.target_contexts.proofs.TheLaws.{starts_one}
use Rattle.target_contexts.proofs.laws.a_start_adds_one.Goals as goal

pub returns : goal.returns
returns c = starts_one
