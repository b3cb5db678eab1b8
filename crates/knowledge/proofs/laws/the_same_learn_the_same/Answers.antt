use Rattle.knowledge.proofs.TheLaws.{blocks_stay_same, facts_stay_same}
use Rattle.knowledge.proofs.laws.the_same_learn_the_same.Goals as goal

pub returns-clause-facts : goal.returns-clause-facts
returns-clause-facts c = facts_stay_same

pub returns-clause-blocks : goal.returns-clause-blocks
returns-clause-blocks c = blocks_stay_same
