use Rattle.data_services.proofs.TheLaws.{failure_changes_nothing}
use Rattle.data_services.proofs.laws.a_failure_changes_nothing.Goals as goal

pub returns : goal.returns
returns c = failure_changes_nothing
