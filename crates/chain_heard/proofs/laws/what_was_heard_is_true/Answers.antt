use Rattle.chain_heard.proofs.TheLaws.{heard_is_coherent, no_target_is_coherent}
use Rattle.chain_heard.proofs.laws.what_was_heard_is_true.Goals as goal

pub returns : goal.returns
returns c = record { heard = heard_is_coherent; no_target = no_target_is_coherent }
