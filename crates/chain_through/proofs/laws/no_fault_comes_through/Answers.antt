use Rattle.chain_through.proofs.TheLaws.{no_fault_comes_through}
use Rattle.chain_through.proofs.laws.no_fault_comes_through.Goals as goal

pub returns : goal.returns
returns c = no_fault_comes_through
