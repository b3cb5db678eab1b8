-- What a value-add learns from what comes from above.
use Rattle.std.specs.Prelude.{ℕ, Option, None, Result, Ok}
use Rattle.value_store.specs.Lessons.{event_message}
use Rattle.tcf_message.specs.Message.{MessageValue, event, final, not_known, progress}
use Rattle.tcf_message.specs.declared.message.MessageFault.{MessageFault}
use Rattle.tcf_values.specs.declared.command.Command.{Command}
pub use Rattle.value_store.specs.Learning.{IsStoreOf, answer_to, later_mark, lesson_of, marked, no_store, stored_answer, taught, used_by}
pub use Rattle.value_store.specs.StoreValue.{StoreValue}

-- an event, whose fault is that it isn't read as one
abbrev pub event_heard : Option ℕ → Result MessageValue MessageFault → StoreValue → StoreValue
event_heard mark (Ok (event service name body)) s = marked mark (taught (event_message service name body) s)
event_heard mark _ s = s

-- a Hello: the positions before it are those of another binding
abbrev pub hello_heard : Option ℕ → Result MessageValue MessageFault → StoreValue → StoreValue
hello_heard mark message s = event_heard mark message (record s { mark = None })

abbrev pub progress_heard : Option ℕ → Result MessageValue MessageFault → StoreValue → StoreValue
progress_heard mark (Ok (progress token body)) s = marked mark s
progress_heard mark _ s = s

-- an answer is learned with its command, where that was read
abbrev pub final_heard : Option Command → Option ℕ → Result MessageValue MessageFault → StoreValue → StoreValue
final_heard command mark (Ok (final token body)) s = marked mark (taught (lesson_of command body) s)
final_heard command mark (Ok (not_known token)) s = marked mark s
final_heard command mark _ s = s
