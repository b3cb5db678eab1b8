use Rattle.breakpoints.proofs.TheLaws.{list_stays_orderly, steps_keep_order}
use Rattle.breakpoints.proofs.laws.the_list_stays_orderly.Goals as goal

pub returns-clause-runs : goal.returns-clause-runs
returns-clause-runs c = list_stays_orderly

pub returns-clause-steps : goal.returns-clause-steps
returns-clause-steps c = steps_keep_order
