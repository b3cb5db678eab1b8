-- The laws of a served agent, as terms.
use Rattle.agent_serving.specs.Apart.{EachIsGivenItsOwn, OneHistoryServesTheSame}
use Rattle.agent_serving.specs.Left.{GoesOnWhileIdle, LeavesNothing}
use Rattle.agent_serving.specs.Served.{ServesAnAgent}
use Rattle.agent_serving.proofs.Apart.{given_its_own, one_history_serves_the_same}
use Rattle.agent_serving.proofs.Idling.{goes_on_while_idle}
use Rattle.agent_serving.proofs.Leaving.{leaves_nothing}
use Rattle.agent_serving.proofs.ServedSo.{serves_an_agent}

pub served_is_an_agent : ServesAnAgent
served_is_an_agent = serves_an_agent

pub nothing_is_left : LeavesNothing
nothing_is_left = leaves_nothing

pub goes_on_when_idle : GoesOnWhileIdle
goes_on_when_idle = goes_on_while_idle

pub each_is_given_its_own : EachIsGivenItsOwn
each_is_given_its_own = given_its_own

pub one_history_one_serving : OneHistoryServesTheSame
one_history_one_serving = one_history_serves_the_same
