-- A Hello, and an answer to a command of the service Locator, teach nothing to whom nothing is known.
use Rattle.std.proofs.Common.{◌≡◌, ℕ, Bool, true, false, cond, List, [], ◌∷◌, Option, Some, None, Result, Ok, Err, refl, ap, sym, ◌∙◌, subst}
use Rattle.std.specs.Prelude.{codes, option_and_then, option_map, slice_get}
use Rattle.value_store.specs.Lessons.{answer_by, event_message, message_by}
use Rattle.channel_core.specs.Wire.{hello, locator}
use Rattle.command_tables.specs.Arguments.{text_part}
use Rattle.command_tables.specs.Reading.{bad_of, is_unended, reading_by, reading_in, reading_of}
use Rattle.command_tables.specs.Rows.{locator_row, made, then_read}
use Rattle.command_tables.specs.declared.reading.Reading.{Reading}
use Rattle.json_args.specs.Parts.{parts_of}
use Rattle.json_args.specs.declared.fault.ArgFault.{ArgFault}
use Rattle.json_args.specs.declared.fault.ArgFault.TheVariants as faults
use Rattle.knowledge.specs.Changes.{after_all, all_gone}
use Rattle.knowledge.specs.Facts.{nothing}
use Rattle.knowledge.specs.Learning.{Message, changes_of, learn}
use Rattle.reply_tables.specs.Answers.{answer_read}
use Rattle.reply_tables.specs.Events.{event_by, event_in, known_or_bad}
use Rattle.reply_tables.specs.Parts.{ended_parts}
use Rattle.service_names.specs.Commands.{locator_in, name_in}
use Rattle.service_names.specs.EventLaws.{event_there}
use Rattle.service_names.specs.declared.commands.CommandName.TheVariants as service
use Rattle.service_names.specs.declared.commands.LocatorCommand.{LocatorCommand}
use Rattle.service_names.specs.declared.commands.LocatorCommand.TheVariants as asks
use Rattle.service_names.specs.declared.events.EventName.{EventName}
use Rattle.tcf_values.specs.declared.answer.Answer.{Answer}
use Rattle.tcf_values.specs.declared.command.Command.TheVariants.{Sync, GetPeers, Redirect}
use Rattle.tcf_values.specs.declared.event.EventData.{EventData}
use Rattle.value_node.specs.Asked.{Asked}
use Rattle.value_node.specs.Barriers.{command_in}
use Rattle.value_node.specs.Deeds.{command_asked}
use Rattle.value_node.specs.Store.{lesson_of}

locator_is : locator ≡ codes "Locator"
unfolding locator
locator_is = refl

hello_is : hello ≡ codes "Hello"
unfolding hello
hello_is = refl

-- where nothing is known, nothing is known behind it
abbrev pub TeachesNothing : Message → Type 0
TeachesNothing message = learn message nothing ≡ nothing

-- ---- a Hello

list_gone : (list : Option (List (List ℕ))) → changes_of (message_by (known_or_bad (option_map EventData.Hello list))) ≡ all_gone ∷ []
list_gone None = refl
list_gone (Some list) = refl

parts_gone : (parts : Option (List (List ℕ))) → changes_of (message_by (known_or_bad (option_and_then (event_in EventName.Hello) parts))) ≡ all_gone ∷ []
parts_gone None = refl
parts_gone (Some parts) = list_gone _

pub hello_teaches : (body : List ℕ) → TeachesNothing (event_message locator hello body)
hello_teaches body =
    let named : event_message locator hello body ≡ event_message (codes "Locator") (codes "Hello") body =
    ap (λ s. event_message s hello body) locator_is ∙ ap (λ n. event_message (codes "Locator") n body) hello_is in
    let gone : changes_of (event_message (codes "Locator") (codes "Hello") body) ≡ all_gone ∷ [] =
    ap (λ name. changes_of (message_by (event_by body name))) (event_there EventName.Hello) ∙ parts_gone (ended_parts body) in
    ap (λ message. learn message nothing) named ∙ ap (λ changes. after_all changes nothing) gone

-- ---- an answer to a command of which the data reads so

abbrev AnswerTeaches : List ℕ → Reading → Type 0
AnswerTeaches answer reading = TeachesNothing (lesson_of (command_in reading) answer)

sync_teaches : (answer : Option Answer) → TeachesNothing (answer_by Sync answer)
sync_teaches None = refl
sync_teaches (Some answer) = refl

peers_teach : (answer : Option Answer) → TeachesNothing (answer_by GetPeers answer)
peers_teach None = refl
peers_teach (Some answer) = refl

redirect_teaches : (peer : List ℕ) (answer : Option Answer) → TeachesNothing (answer_by (Redirect peer) answer)
redirect_teaches peer None = refl
redirect_teaches peer (Some answer) = refl

bad_teaches : (answer : List ℕ) (fault : ArgFault) → AnswerTeaches answer (bad_of fault)
bad_teaches answer faults.NotEnded = refl
bad_teaches answer (faults.Missing index) = refl
bad_teaches answer (faults.Syntax index) = refl
bad_teaches answer (faults.Shape index) = refl
bad_teaches answer (faults.Base64 index) = refl
bad_teaches answer faults.NoMemory = refl

peer_teaches : (answer : List ℕ) (parts : List (List ℕ)) (peer : Result (List ℕ) ArgFault)
    → AnswerTeaches answer (reading_by (then_read (λ id. made (Redirect id) 1 parts) peer))
peer_teaches answer parts (Ok peer) = redirect_teaches peer (answer_read (Redirect peer) answer)
peer_teaches answer parts (Err fault) = bad_teaches answer fault

row_teaches : (answer : List ℕ) (parts : List (List ℕ)) (command : LocatorCommand) → AnswerTeaches answer (reading_by (locator_row command 0 parts))
row_teaches answer parts asks.Sync = sync_teaches (answer_read Sync answer)
row_teaches answer parts asks.GetPeers = peers_teach (answer_read GetPeers answer)
row_teaches answer parts asks.Redirect = peer_teaches answer parts (text_part 0 (slice_get parts 0))

ended_teaches : (unended : Bool) (answer : List ℕ) (parts : List (List ℕ)) (command : LocatorCommand)
    → AnswerTeaches answer (cond unended (bad_of faults.NotEnded) (reading_by (locator_row command 0 parts)))
ended_teaches true answer parts command = refl
ended_teaches false answer parts command = row_teaches answer parts command

named_teaches : (body answer : List ℕ) (command : Option LocatorCommand) → AnswerTeaches answer (reading_in body (option_map service.Locator command))
named_teaches body answer None = refl
named_teaches body answer (Some command) = ended_teaches (is_unended body) answer (parts_of body) command

locator_teaches : (name body answer : List ℕ) → AnswerTeaches answer (reading_of locator name body)
locator_teaches name body answer =
    subst (λ s. AnswerTeaches answer (reading_in body (name_in s name))) (sym locator_is) (named_teaches body answer (locator_in name))

pub own_teaches : (c : Asked) (answer : List ℕ) → c.service ≡ locator → TeachesNothing (lesson_of (command_asked c) answer)
own_teaches c answer at = subst (λ s. AnswerTeaches answer (reading_of s c.name c.body)) (sym at) (locator_teaches c.name c.body answer)
