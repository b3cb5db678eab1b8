use Rattle.target_hub.proofs.TheLaws.{stays_bounded}
use Rattle.target_hub.proofs.sendable.every_history_is_bounded.Goals as goal

pub returns : goal.returns
returns c = stays_bounded
