use Rattle.agent_serving.proofs.TheLaws.{each_is_given_its_own, one_history_one_serving}
use Rattle.agent_serving.proofs.laws.wires_touch_by_the_history_alone.Goals as goal

pub returns-clause-own : goal.returns-clause-own
returns-clause-own c = each_is_given_its_own

pub returns-clause-same : goal.returns-clause-same
returns-clause-same c = one_history_one_serving
