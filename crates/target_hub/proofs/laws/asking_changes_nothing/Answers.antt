use Rattle.target_hub.proofs.TheLaws.{asking_changes_nothing, asking_is_the_same}
use Rattle.target_hub.proofs.laws.asking_changes_nothing.Goals as goal

pub returns-clause-nothing : goal.returns-clause-nothing
returns-clause-nothing c = asking_changes_nothing

pub returns-clause-same : goal.returns-clause-same
returns-clause-same c = asking_is_the_same
