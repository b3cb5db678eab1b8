-- What a message teaches whoever takes it, as its service, its name and its data are read.
use Rattle.std.specs.Prelude.{ℕ, List, Option, Some, None}
use Rattle.command_tables.specs.declared.reading.Reading.{Reading}
use Rattle.command_tables.specs.declared.reading.Reading.TheVariants as readings
use Rattle.knowledge.specs.Learning.{Message, event_taken, bad_event_taken, answer_taken, other_taken}
use Rattle.reply_tables.specs.Answers.{answer_read}
use Rattle.reply_tables.specs.Events.{event_read}
use Rattle.reply_tables.specs.declared.replies.ReadEvent.{ReadEvent}
use Rattle.reply_tables.specs.declared.replies.ReadEvent.TheVariants as read
use Rattle.tcf_values.specs.declared.answer.Answer.{Answer}
use Rattle.tcf_values.specs.declared.command.Command.{Command}

abbrev pub message_by : ReadEvent → Message
message_by (read.Known event) = event_taken event
message_by read.Bad = bad_event_taken
message_by read.Foreign = other_taken

-- an event, by what its service, its name and its data are read as
abbrev pub event_message : List ℕ → List ℕ → List ℕ → Message
event_message service name body = message_by (event_read service name body)

-- an answer that isn't read as one to its command teaches nothing
abbrev pub answer_by : Command → Option Answer → Message
answer_by command None = other_taken
answer_by command (Some answer) = answer_taken command answer

abbrev pub answer_message : Command → List ℕ → Message
answer_message command body = answer_by command (answer_read command body)

-- nor does one to a command that isn't read
abbrev pub final_message : Option Reading → List ℕ → Message
final_message None body = other_taken
final_message (Some (readings.Known command)) body = answer_message command body
final_message (Some readings.Unknown) body = other_taken
final_message (Some (readings.Bad index code)) body = other_taken
