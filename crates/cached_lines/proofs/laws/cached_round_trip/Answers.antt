use Rattle.cached_lines.proofs.TheLaws.{cached_round_trip}
use Rattle.cached_lines.proofs.laws.cached_round_trip.Goals as goal

pub returns : goal.returns
returns c = cached_round_trip
