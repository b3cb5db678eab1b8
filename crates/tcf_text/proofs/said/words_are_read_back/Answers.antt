use Rattle.tcf_text.proofs.Read.{words_are_read_back}
use Rattle.tcf_text.proofs.said.words_are_read_back.Goals as goal

pub returns : goal.returns
returns c = words_are_read_back
