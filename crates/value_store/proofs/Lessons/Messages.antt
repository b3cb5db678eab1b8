-- What a message that is taken tells is within its limits.
use Rattle.std.proofs.Common.{ℕ, List, Option, Some, None, sym, subst, inl, inr}
use Rattle.std.specs.Prelude.{IfSome, option_and_then}
use Rattle.cache_learning.specs.Lessons.{answer_by, message_by}
use Rattle.knowledge.specs.Learning.{Message, event_taken, bad_event_taken, answer_taken, other_taken}
use Rattle.reply_tables.specs.Answers.{answer_read}
use Rattle.reply_tables.specs.Events.{event_by, event_in, known_or_bad}
use Rattle.reply_tables.specs.Parts.{ended_parts}
use Rattle.service_names.specs.Events.{event_named}
use Rattle.service_names.specs.declared.events.EventName.{EventName}
use Rattle.value_store.specs.Taken.{IsTaken}
use Rattle.value_store.proofs.Lessons.Each.{then_any}
use Rattle.value_store.proofs.Lessons.Reading.{IsSound, IsSoundEvent, answer_so, event_so}
use Rattle.tcf_values.specs.declared.answer.Answer.{Answer}
use Rattle.tcf_values.specs.declared.command.Command.{Command}
use Rattle.tcf_values.specs.declared.event.EventData.{EventData}

abbrev pub IsSoundMessage : Message → Type 0
IsSoundMessage (event_taken event) = IsSoundEvent event
IsSoundMessage bad_event_taken = Unit {0}
IsSoundMessage (answer_taken command answer) = IsSound answer
IsSoundMessage other_taken = Unit {0}

found_event : (found : Option EventData) → IfSome found IsSoundEvent → IsSoundMessage (message_by (known_or_bad found))
found_event None so = tt
found_event (Some event) so = so

named_event : (body : List ℕ) (named : Option EventName) → IsSoundMessage (message_by (event_by body named))
named_event body None = tt
named_event body (Some name) =
    found_event (option_and_then (event_in name) (ended_parts body)) (then_any IsSoundEvent (event_in name) (ended_parts body) (event_so name))

found_answer : (command : Command) (found : Option Answer) → IfSome found IsSound → IsSoundMessage (answer_by command found)
found_answer command None so = tt
found_answer command (Some answer) so = so

pub taken_so : (message : Message) → IsTaken message → IsSoundMessage message
taken_so message (inl (service, name, body, is)) = subst IsSoundMessage (sym is) (named_event body (event_named service name))
taken_so message (inr (inl (command, body, is))) = subst IsSoundMessage (sym is) (found_answer command (answer_read command body) (answer_so command body))
taken_so message (inr (inr is)) = subst IsSoundMessage (sym is) tt
