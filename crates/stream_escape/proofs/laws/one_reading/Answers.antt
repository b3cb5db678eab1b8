use Rattle.stream_escape.proofs.TheLaws.{one_reading}
use Rattle.stream_escape.proofs.laws.one_reading.Goals as goal

pub returns : goal.returns
returns c = one_reading
