-- The laws of a way, as terms.
use Rattle.chain_route.specs.Carrying.{CarriesAfterAllCalls}
use Rattle.chain_route.specs.Making.{CarriesByItsCalls}
use Rattle.chain_route.specs.Until.{AllArriveAtAdds}
use Rattle.chain_route.proofs.Law.{carries_by_its_calls}
use Rattle.chain_route.proofs.Until as until

pub each_hop_carries_by_calls : CarriesByItsCalls
each_hop_carries_by_calls = carries_by_its_calls

abbrev pub each_hop_carries : CarriesAfterAllCalls
each_hop_carries adds calls = (each_hop_carries_by_calls adds calls).carries

pub all_arrive_at_adds : AllArriveAtAdds
all_arrive_at_adds = until.all_arrive_at_adds
