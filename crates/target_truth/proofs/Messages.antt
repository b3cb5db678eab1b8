-- What an input tells a channel, as messages that are taken.
use Rattle.std.proofs.Common.{◌≡◌, ℕ, ◌+◌, ◌==◌, Bool, true, false, true≢false, cond, List, [], ◌∷◌, ◌++◌, length, map, Option, Some, None, inl, inr, refl, sym, ◌∙◌, ap, subst}
use Rattle.std.specs.Prelude.{IsSome}
use Rattle.std.specs.List.{AllByRecursion}
use Rattle.command_tables.specs.declared.reading.Reading.{Reading}
use Rattle.command_tables.specs.declared.reading.Reading.TheVariants as readings
use Rattle.knowledge.specs.Facts.{Facts, IsPart}
use Rattle.knowledge.specs.Learning.{Message, learn, learn_all}
use Rattle.reply_tables.specs.Events.{event_data}
use Rattle.service_names.specs.Events.{name_of, service_of, told_as}
use Rattle.service_names.specs.declared.commands.CommandName.{CommandName}
use Rattle.target_hub.specs.Answering.{executed, only, refusal, written}
use Rattle.target_hub.specs.Execution.{exec_after, exec_effect}
use Rattle.target_hub.specs.History.{IsAllowed, input_after, opens}
use Rattle.target_hub.specs.Passing.{closed, closed_told, tick_told, ticked}
use Rattle.target_hub.specs.Sent.{ReadCommand, Told, answer_told, caller_told, event_told, events_told, executed_by, executed_told, hello_at, is_through, progress_at, progress_data, tick_events_told, told_by, agent_services}
use Rattle.target_hub.specs.declared.done.Answered.{Answered}
use Rattle.target_hub.specs.declared.done.Answered.TheVariants as answered
use Rattle.target_hub.specs.declared.done.Done.{Done}
use Rattle.target_hub.specs.declared.input.Input.{Input}
use Rattle.target_hub.specs.declared.input.Input.TheVariants.{Opened, Executed, Ticked, Closed}
use Rattle.run_control.specs.TargetValue.{TargetValue}
use Rattle.target_truth.specs.Holds.{Holds}
use Rattle.target_truth.specs.Listening.{is_event, left_after}
use Rattle.target_truth.specs.Taught.{event_message, message_of, taught}
use Rattle.command_tables.proofs.TheLaws.{known_are_readable}
use Rattle.target_truth.proofs.Changes.{Moves, bad_moves, event_moves, moved, moves_after, other_moves, rested}
use Rattle.target_truth.proofs.Decoding.{event_back}
use Rattle.target_truth.proofs.Rows.{answers_so, events_tell}
use Rattle.target_truth.proofs.RowsBreakpoints.{close}
use Rattle.target_truth.proofs.RowsTrace.{tick}
use Rattle.target_truth.proofs.Seen.{AreNumbered, seen}
use Rattle.target_truth.proofs.Tells.{IsTold, Tell}
use Rattle.target_truth.proofs.Whole.{IsGood}
use Rattle.tcf_values.specs.declared.event.EventData.{EventData}

-- the messages of an input: the first tells what has changed, and the others what is so
abbrev pub Lead : TargetValue → TargetValue → List Message → Type 0
Lead before now [] = IsPart (seen before) (seen now)
Lead before now (message ∷ messages) = Moves before now message × AllByRecursion (Moves now now) messages

-- ---- what is known holds after them

pub stays : (target : TargetValue) (messages : List Message) → AllByRecursion (Moves target target) messages → Lead target target messages
stays target [] all = λ fact knows. knows
stays target (message ∷ messages) all = all

-- then after each of them, and where there is none, what is known holds of the target as it is now
pub lead_kept : (before now : TargetValue) (front rest : List Message) (last : Message) (known : Facts) → AreNumbered before → AreNumbered now → Lead before now (front ++ last ∷ rest)
    → Holds known before → Holds (learn_all (front ++ last ∷ []) known) now
lead_kept before now [] rest last known was is lead holds = moved before now last known was lead.0 holds
lead_kept before now (message ∷ front) rest last known was is lead holds =
    lead_kept now now front rest last (learn message known) is is (stays now (front ++ last ∷ rest) lead.1) (moved before now message known was lead.0 holds)

pub all_kept : (before now : TargetValue) (messages : List Message) (known : Facts) → AreNumbered before → AreNumbered now → Lead before now messages → Holds known before
    → Holds (learn_all messages known) now
all_kept before now [] known was is lead holds = rested before now known was lead holds
all_kept before now (message ∷ messages) known was is lead holds =
    all_kept now now messages (learn message known) is is (stays now messages lead.1) (moved before now message known was lead.0 holds)

-- ---- the messages of what is told

-- events answer nothing
events_apart : (position : ℕ) (events : List EventData) (commands : List ReadCommand) (more : List Told)
    → taught commands (events_told position events ++ more) ≡ taught commands (events_told position events) ++ taught commands more
events_apart position [] commands more = refl
events_apart position (event ∷ events) commands more =
    ap (λ (messages : List Message). message_of commands (event_told position event) ∷ messages) (events_apart position events commands more)

events_left : (position : ℕ) (events : List EventData) (commands : List ReadCommand) (more : List Told)
    → left_after (events_told position events ++ more) commands ≡ left_after more commands
events_left position [] commands more = refl
events_left position (event ∷ events) commands more = events_left position events commands more

-- ---- events

event_leads : (before now : TargetValue) (event : EventData) → IsTold before now event
    → Moves before now (event_message (service_of (told_as event)) (name_of (told_as event)) (event_data event))
event_leads before now event told =
    elim (event_back event told.limits told.typed) [
      | inl is ↦ subst (Moves before now) (sym is) (event_moves before now event told.leads)
      | inr is ↦ subst (Moves before now) (sym is) (bad_moves before now)
    ]

events_so : (target : TargetValue) (events : List EventData) (position : ℕ) (commands : List ReadCommand) → AllByRecursion (IsTold target target) events
    → AllByRecursion (Moves target target) (taught commands (events_told position events))
events_so target [] position commands all = tt
events_so target (event ∷ events) position commands all = (event_leads target target event all.0, events_so target events position commands all.1)

pub events_lead : (before now : TargetValue) (events : List EventData) (position : ℕ) (commands : List ReadCommand) → Tell before now events
    → Lead before now (taught commands (events_told position events))
events_lead before now [] position commands tell = tell
events_lead before now (event ∷ events) position commands tell = (event_leads before now event tell.0, events_so now events position commands tell.1)

-- ---- progress and an answer

all_append : (target : TargetValue) (some more : List Message) → AllByRecursion (Moves target target) some → AllByRecursion (Moves target target) more
    → AllByRecursion (Moves target target) (some ++ more)
all_append target [] more all also = also
all_append target (message ∷ some) more all also = (all.0, all_append target some more all.1 also)

pub lead_append : (before now : TargetValue) (some more : List Message) → Lead before now some → AllByRecursion (Moves now now) more
    → Lead before now (some ++ more)
lead_append before now [] [] lead all = lead
lead_append before now [] (message ∷ more) lead all = (moves_after before now message lead all.0, all.1)
lead_append before now (message ∷ some) more lead all = (lead.0, all_append now some more lead.1 all)

abbrev pub as_read : Reading → List ℕ → List ℕ → ReadCommand
as_read reading service name = record { reading = reading; service = service; name = name }

progress_so : (target : TargetValue) (position : ℕ) (addresses : List ℕ) (commands : List ReadCommand) (more : List Told) → AllByRecursion (Moves target target) (taught commands more)
    → AllByRecursion (Moves target target) (taught commands (map (λ address. progress_at position (progress_data address)) addresses ++ more))
progress_so target position [] commands more so = so
progress_so target position (address ∷ addresses) commands more so = (other_moves target, progress_so target position addresses commands more so)

-- what the caller alone is told
caller_so : (is_caller : Bool) (target : TargetValue) (position : ℕ) (reading : Reading) (service name : List ℕ) (done : Done) (commands : List ReadCommand)
    → Moves target target (message_of (as_read reading service name ∷ commands) (answer_told position (is_through reading) done.answer))
    → AllByRecursion (Moves target target)
    (taught (cond is_caller (as_read reading service name ∷ []) [] ++ commands) (cond is_caller (caller_told position reading done) []))
caller_so true target position reading service name done commands so =
    progress_so target position done.progress (as_read reading service name ∷ commands) (answer_told position (is_through reading) done.answer ∷ []) (so, tt)
caller_so false target position reading service name done commands so = tt

executed_leads : (k position channel : ℕ) (reading : Reading) (service name : List ℕ) (done : Done) (before now : TargetValue) (commands : List ReadCommand) → Tell before now done.events
    → Moves now now (message_of (as_read reading service name ∷ commands) (answer_told position (is_through reading) done.answer))
    → Lead before now (taught (executed_by k (Executed channel reading service name) ++ commands) (executed_told k position channel reading done))
executed_leads k position channel reading service name done before now commands tell so =
    let asked = executed_by k (Executed channel reading service name) ++ commands in
    subst (Lead before now) (sym (events_apart position done.events asked (cond (channel == k) (caller_told position reading done) [])))
    (lead_append before now _ _ (events_lead before now done.events position asked tell)
    (caller_so (channel == k) now position reading service name done commands so))

same : (target : TargetValue) → Tell target target []
same target fact knows = knows

refusal_so : (target : TargetValue) (named : Option CommandName) (position index code : ℕ) (service name : List ℕ) (commands : List ReadCommand)
    → Moves target target (message_of (as_read (readings.Bad index code) service name ∷ commands) (answer_told position true (refusal named code)))
refusal_so target None position index code service name commands = other_moves target
refusal_so target (Some command) position index code service name commands = other_moves target

-- ---- an input answers just the command that it executes

progress_left : (position : ℕ) (addresses : List ℕ) (commands : List ReadCommand) (more : List Told)
    → left_after (map (λ address. progress_at position (progress_data address)) addresses ++ more) commands ≡ left_after more commands
progress_left position [] commands more = refl
progress_left position (address ∷ addresses) commands more = progress_left position addresses commands more

answer_left : (position : ℕ) (through : Bool) (answer : Answered) (command : ReadCommand) (commands : List ReadCommand)
    → left_after (answer_told position through answer ∷ []) (command ∷ commands) ≡ commands
answer_left position through answered.Unknown command commands = refl
answer_left position through (answered.Result body) command commands = refl

caller_left : (is_caller : Bool) (position : ℕ) (reading : Reading) (service name : List ℕ) (done : Done) (commands : List ReadCommand)
    → left_after (cond is_caller (caller_told position reading done) []) (cond is_caller (as_read reading service name ∷ []) [] ++ commands) ≡ commands
caller_left true position reading service name done commands =
    progress_left position done.progress (as_read reading service name ∷ commands) (answer_told position (is_through reading) done.answer ∷ [])
    ∙ answer_left position (is_through reading) done.answer (as_read reading service name) commands
caller_left false position reading service name done commands = refl

executed_left : (k position channel : ℕ) (reading : Reading) (service name : List ℕ) (done : Done) (commands : List ReadCommand)
    → left_after (executed_told k position channel reading done) (executed_by k (Executed channel reading service name) ++ commands) ≡ commands
executed_left k position channel reading service name done commands =
    events_left position done.events _ (cond (channel == k) (caller_told position reading done) [])
    ∙ caller_left (channel == k) position reading service name done commands

hello_left : (is_own : Bool) (position : ℕ) (commands : List ReadCommand) → left_after (cond is_own (hello_at position agent_services ∷ []) []) commands ≡ commands
hello_left true position commands = refl
hello_left false position commands = refl

only_events_left : (position : ℕ) (events : List EventData) (commands : List ReadCommand) → left_after (events_told position events) commands ≡ commands
only_events_left position [] commands = refl
only_events_left position (event ∷ events) commands = only_events_left position events commands

tick_left : (position : ℕ) (found : Option (List EventData)) (commands : List ReadCommand) → left_after (tick_events_told position found) commands ≡ commands
tick_left position None commands = refl
tick_left position (Some events) commands = only_events_left position events commands

pub input_answers : (k position : ℕ) (target : TargetValue) (input : Input) (commands : List ReadCommand)
    → left_after (told_by k position target input) (executed_by k input ++ commands) ≡ commands
input_answers k position target (Opened channel) commands = hello_left (channel == k) position commands
input_answers k position target (Executed channel reading service name) commands = executed_left k position channel reading service name (executed channel service name reading target) commands
input_answers k position target (Ticked thread) commands = tick_left position (tick_told thread target) commands
input_answers k position target (Closed channel) commands = only_events_left position (closed_told channel target) commands

-- ---- each input but the opening of k

opened_leads : (is_own : Bool) (target : TargetValue) (position : ℕ) (commands : List ReadCommand) → is_own ≡ false
    → Lead target target (taught commands (cond is_own (hello_at position agent_services ∷ []) []))
opened_leads true target position commands other = absurd (true≢false other)
opened_leads false target position commands other = same target

tick_leads : (before now : TargetValue) (position : ℕ) (found : Option (List EventData)) (commands : List ReadCommand) → IsSome found
    → ((events : List EventData) → found ≡ Some events → Tell before now events) → Lead before now (taught commands (tick_events_told position found))
tick_leads before now position None commands some tell = absurd cc
tick_leads before now position (Some events) commands some tell = events_lead before now events position commands (tell events refl)

pub input_leads : (k : ℕ) (before : List Input) (target : TargetValue) (input : Input) (commands : List ReadCommand) → IsGood target
    → IsAllowed before target input → opens k input ≡ false
    → Lead target (input_after input target) (taught (executed_by k input ++ commands) (told_by k (length before + 1) target input))
input_leads k before target (Opened channel) commands good allowed other = opened_leads (channel == k) target (length before + 1) commands other
input_leads k before target (Executed channel (readings.Known command) service name) commands good allowed other =
    executed_leads k (length before + 1) channel (readings.Known command) service name (written command (exec_effect channel command target)) target (exec_after channel command target) commands
    (events_tell channel command target good (known_are_readable service name command allowed.1).1)
    (answers_so channel command target good (known_are_readable service name command allowed.1).1)
input_leads k before target (Executed channel readings.Unknown service name) commands good allowed other =
    executed_leads k (length before + 1) channel readings.Unknown service name (only answered.Unknown) target target commands (same target) (other_moves target)
input_leads k before target (Executed channel (readings.Bad index code) service name) commands good allowed other =
    executed_leads k (length before + 1) channel (readings.Bad index code) service name (only (refusal _ code)) target target commands (same target)
    (refusal_so target _ (length before + 1) index code service name commands)
input_leads k before target (Ticked thread) commands good allowed other =
    tick_leads target (ticked thread target) (length before + 1) (tick_told thread target) commands allowed (λ events is. tick thread target events good is)
input_leads k before target (Closed channel) commands good allowed other =
    events_lead target (closed channel target) (closed_told channel target) (length before + 1) commands (close channel target good)

-- ---- one that tells no event first changes nothing that could be known

abbrev pub IsSilentFirst : TargetValue → TargetValue → List Told → Type 0
IsSilentFirst before now [] = Unit {0}
IsSilentFirst before now (told ∷ rest) = is_event told ≡ false → IsPart (seen before) (seen now)

silent : (before now : TargetValue) (told : List Told) → IsPart (seen before) (seen now) → IsSilentFirst before now told
silent before now [] part = tt
silent before now (told ∷ rest) part = λ other. part

events_silent : (before now : TargetValue) (position : ℕ) (events : List EventData) → Tell before now events → IsSilentFirst before now (events_told position events)
events_silent before now position [] tell = tt
events_silent before now position (event ∷ events) tell = λ other. absurd (true≢false other)

then_silent : (before now : TargetValue) (position : ℕ) (events : List EventData) (more : List Told) → Tell before now events
    → IsSilentFirst before now (events_told position events ++ more)
then_silent before now position [] more tell = silent before now more tell
then_silent before now position (event ∷ events) more tell = λ other. absurd (true≢false other)

tick_silent : (before now : TargetValue) (position : ℕ) (found : Option (List EventData)) → ((events : List EventData) → found ≡ Some events → Tell before now events)
    → IsSilentFirst before now (tick_events_told position found)
tick_silent before now position None tell = tt
tick_silent before now position (Some events) tell = events_silent before now position events (tell events refl)

pub input_silent : (k : ℕ) (before : List Input) (target : TargetValue) (input : Input) → IsGood target → IsAllowed before target input
    → IsSilentFirst target (input_after input target) (told_by k (length before + 1) target input)
input_silent k before target (Opened channel) good allowed = silent target target (told_by k (length before + 1) target (Opened channel)) (same target)
input_silent k before target (Executed channel (readings.Known command) service name) good allowed =
    then_silent target (exec_after channel command target) (length before + 1) (written command (exec_effect channel command target)).events
    (cond (channel == k) (caller_told (length before + 1) (readings.Known command) (written command (exec_effect channel command target))) [])
    (events_tell channel command target good (known_are_readable service name command allowed.1).1)
input_silent k before target (Executed channel readings.Unknown service name) good allowed =
    silent target target (told_by k (length before + 1) target (Executed channel readings.Unknown service name)) (same target)
input_silent k before target (Executed channel (readings.Bad index code) service name) good allowed =
    silent target target (told_by k (length before + 1) target (Executed channel (readings.Bad index code) service name)) (same target)
input_silent k before target (Ticked thread) good allowed =
    tick_silent target (ticked thread target) (length before + 1) (tick_told thread target) (λ events is. tick thread target events good is)
input_silent k before target (Closed channel) good allowed =
    events_silent target (closed channel target) (length before + 1) (closed_told channel target) (close channel target good)
