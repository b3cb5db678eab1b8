use Rattle.data_services.proofs.Lawful.{asking_changes_nothing}
use Rattle.data_services.proofs.laws.asking_changes_nothing.Goals as goal

pub returns : goal.returns
returns c = asking_changes_nothing
