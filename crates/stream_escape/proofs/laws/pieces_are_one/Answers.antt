use Rattle.stream_escape.proofs.TheLaws.{pieces_are_one}
use Rattle.stream_escape.proofs.laws.pieces_are_one.Goals as goal

pub returns : goal.returns
returns c = pieces_are_one
