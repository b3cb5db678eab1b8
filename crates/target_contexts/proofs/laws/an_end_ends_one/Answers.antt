use Rattle.target_contexts.proofs.TheLaws.{ends_one}
use Rattle.target_contexts.proofs.laws.an_end_ends_one.Goals as goal

pub returns : goal.returns
returns c = ends_one
