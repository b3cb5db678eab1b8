use Rattle.json_values.specs.PropsLaws.{bp_back}
use Rattle.json_values.proofs.props.bp_round_trip.Goals as goal

pub returns : goal.returns
returns c = bp_back
