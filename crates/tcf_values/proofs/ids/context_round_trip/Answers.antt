use Rattle.tcf_values.proofs.TheLaws.{context_round_trip}
use Rattle.tcf_values.proofs.ids.context_round_trip.Goals as goal

pub returns : goal.returns
returns c = context_round_trip
