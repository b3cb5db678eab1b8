use Rattle.stream_escape.proofs.Cuts.{any_pieces, any_cuts}
use Rattle.stream_escape.proofs.laws.any_pieces.Goals as goal

pub returns : goal.returns
returns c = record { whole = any_pieces; cuts = any_cuts }
