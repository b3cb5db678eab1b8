use Rattle.target_hub.proofs.Histories.{closed_owns_nothing}
use Rattle.target_hub.proofs.TheLaws.{stays_consistent}
use Rattle.target_hub.proofs.laws.every_history_is_consistent.Goals as goal

pub returns : goal.returns
returns c = record { target = stays_consistent; closed = closed_owns_nothing }
