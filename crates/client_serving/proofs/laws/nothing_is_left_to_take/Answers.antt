use Rattle.client_serving.proofs.NothingLeft.{leaves_nothing}
use Rattle.client_serving.proofs.laws.nothing_is_left_to_take.Goals as goal

pub returns : goal.returns
returns c = leaves_nothing
