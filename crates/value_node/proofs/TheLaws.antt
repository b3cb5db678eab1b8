-- The laws of a value-add, as terms.
use Rattle.value_node.specs.OwnLaws.{AnswersItself, AsksNothingBelow, ConnectsWhenAsked}
use Rattle.value_node.specs.RelayLaws.{AfterAllCalls, AfterAllDeeds, AnswersRightly, EndsAreRuns, ForwardsInOrder, KnowsWhatItHeard, PassesAllOn}
use Rattle.value_node.proofs.HoldsCalled.{always_knows, always_rightly, always_runs}
use Rattle.value_node.proofs.HoldsOwn.{always_answers, always_asks_nothing, always_connects}
use Rattle.value_node.proofs.HoldsSaid.{always_passes}
use Rattle.value_node.proofs.HoldsSent.{always_forwards}

pub ends_are_runs : AfterAllCalls EndsAreRuns
ends_are_runs = always_runs

pub forwards_in_order : AfterAllDeeds ForwardsInOrder
forwards_in_order = always_forwards

pub passes_all_on : AfterAllDeeds PassesAllOn
passes_all_on = always_passes

pub answers_rightly : AfterAllDeeds AnswersRightly
answers_rightly = always_rightly

pub knows_what_it_heard : AfterAllDeeds KnowsWhatItHeard
knows_what_it_heard = always_knows

pub answers_itself : AfterAllCalls AnswersItself
answers_itself = always_answers

pub connects_when_asked : AfterAllCalls ConnectsWhenAsked
connects_when_asked = always_connects

pub asks_nothing_below : AfterAllCalls AsksNothingBelow
asks_nothing_below = always_asks_nothing
