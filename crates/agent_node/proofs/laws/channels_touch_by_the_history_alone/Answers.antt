use Rattle.agent_node.proofs.TheLaws.{channel_sees_nothing_else, each_is_told_its_own, one_history_one_telling}
use Rattle.agent_node.proofs.laws.channels_touch_by_the_history_alone.Goals as goal

pub returns-clause-own : goal.returns-clause-own
returns-clause-own c = each_is_told_its_own

pub returns-clause-same : goal.returns-clause-same
returns-clause-same c = one_history_one_telling

pub returns-clause-nothing_else : goal.returns-clause-nothing_else
returns-clause-nothing_else c = channel_sees_nothing_else
