-- The laws of an agent, as terms.
use Rattle.agent_node.specs.AgentLaws.{AgentTellsTheTruth}
use Rattle.agent_node.specs.Apart.{EachIsToldItsOwn, OneHistoryTellsTheSame}
use Rattle.agent_node.specs.Openings.{AtMost64AreLive, EachOpensWhereItMay}
use Rattle.agent_node.specs.Sights.{SeesNothingElse}
use Rattle.agent_node.specs.Strangers.{NoStrangersAfterAnyCalls}
use Rattle.agent_node.proofs.Apart.{one_history_tells_the_same, told_its_own}
use Rattle.agent_node.proofs.Openings.{at_most_64, opens_where_it_may}
use Rattle.agent_node.proofs.Sights.{sees_nothing_else}
use Rattle.agent_node.proofs.Strangers.{no_strangers}
use Rattle.agent_node.proofs.Truth.{tells_the_truth}

pub agent_tells_the_truth : AgentTellsTheTruth
agent_tells_the_truth = tells_the_truth

pub agent_has_no_strangers : NoStrangersAfterAnyCalls
agent_has_no_strangers = no_strangers

pub at_most_64_live : AtMost64AreLive
at_most_64_live = at_most_64

pub each_opens_where_it_may : EachOpensWhereItMay
each_opens_where_it_may = opens_where_it_may

pub each_is_told_its_own : EachIsToldItsOwn
each_is_told_its_own = told_its_own

pub one_history_one_telling : OneHistoryTellsTheSame
one_history_one_telling = one_history_tells_the_same

pub channel_sees_nothing_else : SeesNothingElse
channel_sees_nothing_else = sees_nothing_else
