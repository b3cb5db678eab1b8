use Rattle.relay_laws.proofs.TheLaws.{its_traffic_goes_on, its_traffic_is_real, value_add_is_a_relay}
use Rattle.relay_laws.proofs.laws.a_value_add_is_a_relay.Goals as goal

pub returns : goal.returns
returns c = record { relay = value_add_is_a_relay; real = its_traffic_is_real; goes_on = its_traffic_goes_on }
