use Rattle.value_serving.proofs.ServedAdds.{serves_value_adds}
use Rattle.value_serving.proofs.laws.what_is_served_are_value_adds.Goals as goal

pub returns : goal.returns
returns c = serves_value_adds
