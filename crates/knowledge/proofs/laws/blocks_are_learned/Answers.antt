use Rattle.knowledge.proofs.TheLaws.{blocks_are_learned}
use Rattle.knowledge.proofs.laws.blocks_are_learned.Goals as goal

pub returns : goal.returns
returns c = blocks_are_learned
