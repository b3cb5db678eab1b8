use Rattle.hub_serving.proofs.ServedSo.{serves_a_hub}
use Rattle.hub_serving.proofs.laws.what_is_served_is_a_hub.Goals as goal

pub returns : goal.returns
returns c = serves_a_hub
