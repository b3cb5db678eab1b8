use Rattle.hub_serving.proofs.Live.{no_more_than_64}
use Rattle.hub_serving.proofs.laws.no_more_than_64_are_live.Goals as goal

pub returns : goal.returns
returns c = no_more_than_64
