use Rattle.chain_world.proofs.TheLaws.{rounds_go_on}
use Rattle.chain_world.proofs.laws.a_round_goes_on.Goals as goal

pub returns : goal.returns
returns c = rounds_go_on
