use Rattle.tcf_text.proofs.LinesBack.{lines_are_read_back}
use Rattle.tcf_text.proofs.reading.lines_are_read_back.Goals as goal

pub returns : goal.returns
returns c = lines_are_read_back
