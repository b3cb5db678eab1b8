use Rattle.chain_told.proofs.TheLaws.{target_tells_rightly, target_tells_what_is_owed}
use Rattle.chain_told.proofs.laws.what_the_target_tells_is_right.Goals as goal

pub returns : goal.returns
returns c = record { right = target_tells_rightly; owed = target_tells_what_is_owed }
