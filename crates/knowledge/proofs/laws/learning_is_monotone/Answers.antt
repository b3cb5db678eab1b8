use Rattle.knowledge.proofs.TheLaws.{learning_is_monotone}
use Rattle.knowledge.proofs.laws.learning_is_monotone.Goals as goal

pub returns : goal.returns
returns c = learning_is_monotone
