use Rattle.chain_heard.proofs.Heard.{heard_alone}
use Rattle.chain_heard.proofs.TheLaws.{heard_among_is_ordered}
use Rattle.chain_heard.proofs.laws.what_was_heard_is_ordered.Goals as goal

pub returns : goal.returns
returns c = record { among = heard_among_is_ordered; alone = heard_alone }
