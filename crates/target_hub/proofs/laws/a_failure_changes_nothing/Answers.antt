use Rattle.target_hub.proofs.Unchanged.{failure_nothing}
use Rattle.target_hub.proofs.laws.a_failure_changes_nothing.Goals as goal

pub returns : goal.returns
returns c = failure_nothing
