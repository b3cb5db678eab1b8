use Rattle.tcf_message.proofs.WholeLaws.{is_one_spelling}
use Rattle.tcf_message.proofs.laws.one_spelling.Goals as goal

pub returns : goal.returns
returns c = is_one_spelling
