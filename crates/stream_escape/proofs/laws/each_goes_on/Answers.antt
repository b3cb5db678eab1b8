use Rattle.stream_escape.proofs.TheLaws.{each_goes_on}
use Rattle.stream_escape.proofs.laws.each_goes_on.Goals as goal

pub returns : goal.returns
returns c = each_goes_on
