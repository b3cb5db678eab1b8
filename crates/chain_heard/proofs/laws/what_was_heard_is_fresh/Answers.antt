use Rattle.chain_heard.proofs.TheLaws.{heard_is_fresh, no_target_is_fresh}
use Rattle.chain_heard.proofs.laws.what_was_heard_is_fresh.Goals as goal

pub returns : goal.returns
returns c = record { heard = heard_is_fresh; no_target = no_target_is_fresh }
