use Rattle.tcf_text.proofs.Data.{data_are_read_back}
use Rattle.tcf_text.proofs.said.data_are_read_back.Goals as goal

pub returns : goal.returns
returns c = data_are_read_back
