use Rattle.hub_serving.proofs.NothingLeft.{leaves_nothing}
use Rattle.hub_serving.proofs.laws.nothing_is_left_to_do.Goals as goal

pub returns : goal.returns
returns c = leaves_nothing
