use Rattle.knowledge.proofs.TheLaws.{ranges_stay_same, replies_stay_same}
use Rattle.knowledge.proofs.laws.the_same_answer_the_same.Goals as goal

pub returns-clause-answers : goal.returns-clause-answers
returns-clause-answers c = replies_stay_same

pub returns-clause-ranges : goal.returns-clause-ranges
returns-clause-ranges c = ranges_stay_same
