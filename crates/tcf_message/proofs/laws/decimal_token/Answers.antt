use Rattle.tcf_message.proofs.TheLaws.{decimal_token}
use Rattle.tcf_message.proofs.laws.decimal_token.Goals as goal

pub returns : goal.returns
returns c = decimal_token
