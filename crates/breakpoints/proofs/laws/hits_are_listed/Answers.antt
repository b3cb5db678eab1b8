use Rattle.breakpoints.proofs.TheLaws as laws
use Rattle.breakpoints.proofs.laws.hits_are_listed.Goals as goal

pub returns : goal.returns
returns c = laws.hits_are_listed
