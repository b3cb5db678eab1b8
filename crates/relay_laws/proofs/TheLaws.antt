-- The laws of relays, as terms.
use Rattle.relay_laws.specs.Contained.{KeepsContainment, TwoKeepContainment}
use Rattle.relay_laws.specs.ValueTraffic.{ItsTrafficGoesOn, ItsTrafficIsReal, ValueAddIsARelay}
use Rattle.relay_laws.proofs.Containing as containing
use Rattle.relay_laws.proofs.Joined as joined
use Rattle.relay_laws.proofs.Value.Traffic.{goes_on, is_a_relay, is_real}

pub keeps_containment : KeepsContainment
keeps_containment = containing.keeps_containment

pub two_keep_containment : TwoKeepContainment
two_keep_containment = joined.two_keep_containment

pub value_add_is_a_relay : ValueAddIsARelay
value_add_is_a_relay = is_a_relay

pub its_traffic_is_real : ItsTrafficIsReal
its_traffic_is_real = is_real

pub its_traffic_goes_on : ItsTrafficGoesOn
its_traffic_goes_on = goes_on
