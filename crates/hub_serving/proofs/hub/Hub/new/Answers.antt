use Rattle.hub_serving.proofs.UnderNumbers.{new_holds}
use Rattle.hub_serving.proofs.hub.Hub.new.Goals as goal

pub invariant_of-result : goal.invariant_of-result
invariant_of-result c = new_holds c.in_ok-new.field-0 c.in_ok-new.ensures
