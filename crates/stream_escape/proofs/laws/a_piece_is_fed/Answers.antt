use Rattle.stream_escape.proofs.Feds.{is_feeding, never_wants, reads_are_fed}
use Rattle.stream_escape.proofs.laws.a_piece_is_fed.Goals as goal

pub returns : goal.returns
returns c = record { feeding = is_feeding; memory = never_wants; reads = reads_are_fed }
