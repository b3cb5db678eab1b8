use Rattle.breakpoints.proofs.TheLaws.{drops_one, raises_one}
use Rattle.breakpoints.proofs.laws.counts_are_by_process.Goals as goal

pub returns-clause-raised : goal.returns-clause-raised
returns-clause-raised c = raises_one

pub returns-clause-dropped : goal.returns-clause-dropped
returns-clause-dropped c = drops_one
