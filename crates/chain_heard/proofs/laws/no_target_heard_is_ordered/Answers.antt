use Rattle.chain_heard.proofs.TheLaws.{no_target_is_ordered}
use Rattle.chain_heard.proofs.laws.no_target_heard_is_ordered.Goals as goal

pub returns : goal.returns
returns c = no_target_is_ordered
