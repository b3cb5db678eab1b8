use Rattle.value_serving.proofs.Crowd.{no_more_than_64}
use Rattle.value_serving.proofs.laws.no_more_than_64_stand.Goals as goal

pub returns : goal.returns
returns c = no_more_than_64
