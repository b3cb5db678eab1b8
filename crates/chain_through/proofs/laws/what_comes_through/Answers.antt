use Rattle.chain_through.proofs.TheLaws.{all_comes_through}
use Rattle.chain_through.proofs.laws.what_comes_through.Goals as goal

pub returns : goal.returns
returns c = all_comes_through
