use Rattle.tcf_values.proofs.TheLaws.{register_round_trip}
use Rattle.tcf_values.proofs.ids.register_round_trip.Goals as goal

pub returns : goal.returns
returns c = register_round_trip
