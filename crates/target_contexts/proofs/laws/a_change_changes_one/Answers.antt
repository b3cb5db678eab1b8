use Rattle.target_contexts.proofs.TheLaws.{changes_one}
use Rattle.target_contexts.proofs.laws.a_change_changes_one.Goals as goal

pub returns : goal.returns
returns c = changes_one
