-- The laws of the target, as terms.
use Rattle.target_hub.specs.HistoryLaws.{StaysBounded, StaysConsistent}
use Rattle.target_hub.specs.Laws.{AskingChangesNothing, AskingIsTheSame, ClosingsTellNoHello, CommandsTellNoHello, TicksTellNoHello}
use Rattle.target_hub.specs.Sendable.{AnswersAreSendable, ClosingsTellSendable, CommandsTellSendable, TicksTellSendable}
use Rattle.target_hub.proofs.Bounded as bounded
use Rattle.target_hub.proofs.Greetless.{closings_greetless, commands_greetless, ticks_greetless}
use Rattle.target_hub.proofs.Histories as histories
use Rattle.target_hub.proofs.Sends.{answers_sendable, closings_sendable, commands_sendable, ticks_sendable}
use Rattle.target_hub.proofs.Unchanged.{asking_nothing, asking_same}

pub asking_changes_nothing : AskingChangesNothing
asking_changes_nothing = asking_nothing

pub asking_is_the_same : AskingIsTheSame
asking_is_the_same = asking_same

pub stays_consistent : StaysConsistent
stays_consistent = histories.stays_consistent

pub commands_tell_sendable : CommandsTellSendable
commands_tell_sendable = commands_sendable

pub answers_are_sendable : AnswersAreSendable
answers_are_sendable = answers_sendable

pub ticks_tell_sendable : TicksTellSendable
ticks_tell_sendable = ticks_sendable

pub closings_tell_sendable : ClosingsTellSendable
closings_tell_sendable = closings_sendable

pub stays_bounded : StaysBounded
stays_bounded = bounded.stays_bounded

pub commands_tell_no_hello : CommandsTellNoHello
commands_tell_no_hello = commands_greetless

pub ticks_tell_no_hello : TicksTellNoHello
ticks_tell_no_hello = ticks_greetless

pub closings_tell_no_hello : ClosingsTellNoHello
closings_tell_no_hello = closings_greetless
