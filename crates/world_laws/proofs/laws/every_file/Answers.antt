use Rattle.world_laws.proofs.TheLaws.{file_coherent, file_ends, file_faithful, file_fresh, file_steps, file_unstuck}
use Rattle.world_laws.proofs.laws.every_file.Goals as goal

pub returns-clause-faithful : goal.returns-clause-faithful
returns-clause-faithful c = file_faithful

pub returns-clause-ends : goal.returns-clause-ends
returns-clause-ends c = file_ends

pub returns-clause-steps : goal.returns-clause-steps
returns-clause-steps c = file_steps

pub returns-clause-coherent : goal.returns-clause-coherent
returns-clause-coherent c = file_coherent

pub returns-clause-fresh : goal.returns-clause-fresh
returns-clause-fresh c = file_fresh

pub returns-clause-unstuck : goal.returns-clause-unstuck
returns-clause-unstuck c = file_unstuck
