use Rattle.target_contexts.proofs.TheLaws.{change_stays_orderly, end_stays_orderly, start_stays_orderly}
use Rattle.target_contexts.proofs.laws.they_stay_orderly.Goals as goal

pub returns-clause-start : goal.returns-clause-start
returns-clause-start c = start_stays_orderly

pub returns-clause-change : goal.returns-clause-change
returns-clause-change c = change_stays_orderly

pub returns-clause-end : goal.returns-clause-end
returns-clause-end c = end_stays_orderly
