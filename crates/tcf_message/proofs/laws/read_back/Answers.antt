use Rattle.tcf_message.proofs.TheLaws.{read_back}
use Rattle.tcf_message.proofs.laws.read_back.Goals as goal

pub returns : goal.returns
returns c = read_back
