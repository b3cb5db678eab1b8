-- The laws of what nodes answer, as terms.
use Rattle.value_node.specs.RelayLaws.{AfterAllCalls}
use Rattle.node_answers.specs.AgentAnswering.{ServesAllAfterAnyCalls}
use Rattle.node_answers.specs.Answering.{AnswersBound, AnswersUnbound}
use Rattle.node_answers.specs.Lacking.{EndsWhereClosed, IsAnsweredWhereNonePends}
use Rattle.node_answers.specs.Waiting.{AnswersWhatItCan}
use Rattle.node_answers.proofs.Adds.Bound.{answers_all}
use Rattle.node_answers.proofs.Adds.Leaving.{always_leaves}
use Rattle.node_answers.proofs.Adds.WhileUnbound.{always_answers_unbound}
use Rattle.node_answers.proofs.Agents.Serving.{serves_all}
use Rattle.node_answers.proofs.Clients.Calls as calls

pub answers_unbound : AfterAllCalls AnswersUnbound
answers_unbound = always_answers_unbound

pub answers_bound : AfterAllCalls AnswersBound
answers_bound = answers_all

pub answers_what_it_can : AfterAllCalls AnswersWhatItCan
answers_what_it_can = always_leaves

pub agent_serves_all : ServesAllAfterAnyCalls
agent_serves_all = serves_all

pub answered_where_none_pends : IsAnsweredWhereNonePends
answered_where_none_pends = calls.answered_where_none_pends

pub ends_where_closed : EndsWhereClosed
ends_where_closed = calls.ends_where_closed
