-- What is written is read as what was told, or where a text isn't UTF-8 as nothing.
use Rattle.std.proofs.Common.{◌≡◌, ℕ, zero, suc, ◌⊎◌, Bool, true, false, cond, List, [], ◌∷◌, Option, Some, None, refl, ◌∙◌, ap, inl, inr, arith}
use Rattle.std.specs.Prelude.{codes, option_and_then, option_map}
use Rattle.std.specs.Str.{is_utf8}
use Rattle.base64.specs.GeneralPurpose.{IsBytes}
use Rattle.command_tables.specs.Canonical.{AreBytes}
use Rattle.knowledge.specs.Changes.{all_gone}
use Rattle.knowledge.specs.Learning.{bad_event_taken, changes_of, event_taken}
use Rattle.reply_tables.specs.Answers.{answer_read}
use Rattle.reply_tables.specs.Events.{IsEvent, IsTypedEvent, event_by, event_data, event_in, event_read, known_or_bad}
use Rattle.reply_tables.specs.Limits.{IsAnswerTo}
use Rattle.reply_tables.specs.Parts.{ended_parts}
use Rattle.reply_tables.specs.Written.{IsTyped, answer_data}
use Rattle.reply_tables.specs.declared.replies.ReadEvent.{ReadEvent}
use Rattle.service_names.specs.EventLaws.{event_there}
use Rattle.service_names.specs.Events.{name_of, service_of, told_as}
use Rattle.service_names.specs.declared.events.EventName.{EventName}
use Rattle.target_truth.specs.Taught.{event_message, message_by}
use Rattle.tcf_values.specs.declared.answer.Answer.{Answer}
use Rattle.tcf_values.specs.declared.command.Command.{Command}
use Rattle.tcf_values.specs.declared.event.EventData.{EventData}
use Rattle.reply_tables.proofs.TheLaws.{answers_read_back, bytes_read_back, events_read_back}

either_event : (utf8 : Bool) (event : EventData) (read : ReadEvent) → read ≡ cond utf8 (ReadEvent.Known event) ReadEvent.Bad → (message_by read ≡ event_taken event) ⊎ (message_by read ≡ bad_event_taken)
either_event true event read is = inl (ap message_by is)
either_event false event read is = inr (ap message_by is)

pub event_back : (event : EventData) → IsEvent event → IsTypedEvent event →
    let message = event_message (service_of (told_as event)) (name_of (told_as event)) (event_data event) in
    (message ≡ event_taken event) ⊎ (message ≡ bad_event_taken)
event_back event limits typed =
    either_event (is_utf8 (event_data event)) event (event_read (service_of (told_as event)) (name_of (told_as event)) (event_data event)) (events_read_back event limits typed)

either_answer : (utf8 : Bool) (answer : Answer) (read : Option Answer) → read ≡ cond utf8 (Some answer) None → (read ≡ Some answer) ⊎ (read ≡ None)
either_answer true answer read is = inl is
either_answer false answer read is = inr is

pub answer_back : (command : Command) (answer : Answer) → IsAnswerTo command answer → IsTyped answer →
    let read = answer_read command (answer_data command answer) in
    (read ≡ Some answer) ⊎ (read ≡ None)
answer_back command answer limits typed =
    either_answer (is_utf8 (answer_data command answer)) answer (answer_read command (answer_data command answer)) (answers_read_back command answer limits typed)

each_below : (bytes : List ℕ) → AreBytes bytes → IsBytes bytes
each_below [] are i = omega arith
each_below (b ∷ bs) are zero = are.0
each_below (b ∷ bs) are (suc i) = each_below bs are.1 i

-- base64 stands for its bytes
pub blob_typed : (bytes : List ℕ) → AreBytes bytes → IsTyped (Answer.Blob bytes)
blob_typed bytes are = bytes_read_back bytes (each_below bytes are)

list_gone : (list : Option (List (List ℕ))) → changes_of (message_by (known_or_bad (option_map EventData.Hello list))) ≡ all_gone ∷ []
list_gone None = refl
list_gone (Some list) = refl

parts_gone : (parts : Option (List (List ℕ))) → changes_of (message_by (known_or_bad (option_and_then (event_in EventName.Hello) parts))) ≡ all_gone ∷ []
parts_gone None = refl
parts_gone (Some parts) = list_gone _

-- whatever services a Hello names, nothing is known behind it
pub hello_gone : (body : List ℕ) → changes_of (event_message (codes "Locator") (codes "Hello") body) ≡ all_gone ∷ []
hello_gone body = ap (λ name. changes_of (message_by (event_by body name))) (event_there EventName.Hello) ∙ parts_gone (ended_parts body)
