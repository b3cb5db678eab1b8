use Rattle.chain_told.proofs.TheLaws.{value_add_tells_on}
use Rattle.chain_told.proofs.laws.a_value_add_tells_on.Goals as goal

pub returns : goal.returns
returns c = value_add_tells_on
