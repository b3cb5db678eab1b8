-- What canonical data are read as. A value's text may be no UTF-8 here, since a text is any bytes, and then nothing is read.
use Rattle.std.specs.Prelude.{ℕ, ◌≡◌, List, Some, None, if◌then◌else◌}
use Rattle.std.specs.Str.{is_utf8}
use Rattle.base64.specs.GeneralPurpose.{IsBytes}
use Rattle.reply_tables.specs.Answers.{answer_read}
use Rattle.reply_tables.specs.Events.{IsEvent, IsTypedEvent, event_data, event_read}
use Rattle.reply_tables.specs.Limits.{IsAnswerTo}
use Rattle.reply_tables.specs.Written.{IsTyped, answer_data}
use Rattle.reply_tables.specs.declared.replies.ReadEvent.{ReadEvent}
use Rattle.service_names.specs.Events.{name_of, service_of, told_as}
use Rattle.tcf_values.specs.declared.answer.Answer.{Answer}
use Rattle.tcf_values.specs.declared.command.Command.{Command}
use Rattle.tcf_values.specs.declared.event.EventData.{EventData}

-- an event within the limits is read from its canonical data exactly where they are UTF-8
abbrev pub EventsReadBack : Type 0
EventsReadBack = (event : EventData) → IsEvent event → IsTypedEvent event →
    event_read (service_of (told_as event)) (name_of (told_as event)) (event_data event) ≡
    (if is_utf8 (event_data event) then ReadEvent.Known event else ReadEvent.Bad)

-- and so is an answer within the limits of its command's row
abbrev pub AnswersReadBack : Type 0
AnswersReadBack = (command : Command) (answer : Answer) → IsAnswerTo command answer → IsTyped answer →
    answer_read command (answer_data command answer) ≡ (if is_utf8 (answer_data command answer) then Some answer else None)

-- an answer of bytes is within what its type says
abbrev pub BytesReadBack : Type 0
BytesReadBack = (bytes : List ℕ) → IsBytes bytes → IsTyped (Answer.Blob bytes)
