use Rattle.stream_escape.proofs.Fronts as fronts
use Rattle.stream_escape.proofs.laws.front_of_frame.Goals as goal

pub returns : goal.returns
returns c = fronts.front_of_frame
