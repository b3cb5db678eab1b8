-- What a channel is told, as messages: each answer takes the token of its command.
use Rattle.std.proofs.Common.{◌≡◌, ℕ, Bool, List, [], ◌∷◌, ◌++◌, map, Some, refl, ap, ◌∙◌}
use Rattle.channel_core.specs.Wire.{hello, locator, said}
use Rattle.channel_core.specs.declared.held.Outgoing.{Outgoing}
use Rattle.target_hub.specs.Sent.{Told, agent_services, answer_told, event_at, event_told, events_told, final_at, hello_at, progress_at, progress_data, unknown_at}
use Rattle.target_hub.specs.declared.done.Answered.{Answered}
use Rattle.target_hub.specs.declared.done.Answered.TheVariants.{Unknown, Result}
use Rattle.channel_core.specs.Runs.{Unheld, an_answer, an_event, an_unknown, message_of, some_progress}
use Rattle.reply_tables.specs.Events.{event_data}
use Rattle.service_names.specs.Events.{name_of, service_of, told_as}
use Rattle.tcf_message.specs.Message.{event}
use Rattle.tcf_values.specs.declared.event.EventData.{EventData}
use Rattle.agent_node.specs.AgentLaws.{all_said, messages_told}
use Rattle.agent_node.specs.Runs.{answer_of}

-- as they go out
abbrev pub as_messages : List (List ℕ) → List Told → List Outgoing
as_messages names told = all_said (messages_told names told)

-- each of these tokens is taken by one answer, and progress comes before the answer
pub Uses : List (List ℕ) → List Told → Type 0
Uses names [] = names ≡ []
Uses names (hello_at position body ∷ told) = Uses names told
Uses names (event_at position service name body ∷ told) = Uses names told
Uses [] (progress_at position body ∷ told) = ⊥
Uses (name ∷ names) (progress_at position body ∷ told) = Uses (name ∷ names) told
Uses [] (final_at position through body ∷ told) = ⊥
Uses (name ∷ names) (final_at position through body ∷ told) = Uses names told
Uses [] (unknown_at position through ∷ told) = ⊥
Uses (name ∷ names) (unknown_at position through ∷ told) = Uses names told

pub uses_none : Uses [] []
unfolding Uses
uses_none = refl

pub messages_more : (names more : List (List ℕ)) (told new : List Told) → Uses names told → as_messages (names ++ more) (told ++ new) ≡ as_messages names told ++ as_messages more new
unfolding Uses
messages_more names more [] new u = ap (λ ns. as_messages (ns ++ more) new) u
messages_more names more (hello_at position body ∷ told) new u = ap (λ os. said (event locator hello body) (Some position) ∷ os) (messages_more names more told new u)
messages_more names more (event_at position service name body ∷ told) new u = ap (λ os. said (event service name body) (Some position) ∷ os) (messages_more names more told new u)
messages_more [] more (progress_at position body ∷ told) new u = absurd u
messages_more (name ∷ names) more (progress_at position body ∷ told) new u = ap (λ os. said (message_of (some_progress name body)) (Some position) ∷ os) (messages_more (name ∷ names) more told new u)
messages_more [] more (final_at position through body ∷ told) new u = absurd u
messages_more (name ∷ names) more (final_at position through body ∷ told) new u = ap (λ os. said (message_of (an_answer name body)) (Some position) ∷ os) (messages_more names more told new u)
messages_more [] more (unknown_at position through ∷ told) new u = absurd u
messages_more (name ∷ names) more (unknown_at position through ∷ told) new u = ap (λ os. said (message_of (an_unknown name)) (Some position) ∷ os) (messages_more names more told new u)

uses_from : (names more : List (List ℕ)) (new : List Told) → names ≡ [] → Uses more new → Uses (names ++ more) new
uses_from [] more new is u = u
uses_from (name ∷ names) more new is u = absurd cc

pub uses_more : (names more : List (List ℕ)) (told new : List Told) → Uses names told → Uses more new → Uses (names ++ more) (told ++ new)
unfolding Uses
uses_more names more [] new u v = uses_from names more new u v
uses_more names more (hello_at position body ∷ told) new u v = uses_more names more told new u v
uses_more names more (event_at position service name body ∷ told) new u v = uses_more names more told new u v
uses_more [] more (progress_at position body ∷ told) new u v = absurd u
uses_more (name ∷ names) more (progress_at position body ∷ told) new u v = uses_more (name ∷ names) more told new u v
uses_more [] more (final_at position through body ∷ told) new u v = absurd u
uses_more (name ∷ names) more (final_at position through body ∷ told) new u v = uses_more names more told new u v
uses_more [] more (unknown_at position through ∷ told) new u v = absurd u
uses_more (name ∷ names) more (unknown_at position through ∷ told) new u v = uses_more names more told new u v

-- ---- The Hello

pub hello_messages : (position : ℕ) → as_messages [] (hello_at position agent_services ∷ []) ≡ said (event locator hello agent_services) (Some position) ∷ []
hello_messages position = refl

pub uses_hello : (position : ℕ) → Uses [] (hello_at position agent_services ∷ [])
unfolding Uses
uses_hello position = refl

-- ---- Events

-- an event, as it is sent
unfoldable pub event_unheld : EventData → Unheld
event_unheld told = an_event (service_of (told_as told)) (name_of (told_as told)) (event_data told)

-- as it goes out
abbrev pub say : ℕ → Unheld → Outgoing
say position message = said (message_of message) (Some position)

event_message : (names : List (List ℕ)) (position : ℕ) (e : EventData) (told : List Told) → as_messages names (event_told position e ∷ told) ≡ say position (event_unheld e) ∷ as_messages names told
unfolding event_unheld
event_message names position e told = refl

pub events_messages : (names : List (List ℕ)) (position : ℕ) (events : List EventData) (told : List Told)
    → as_messages names (events_told position events ++ told) ≡ map (say position) (map event_unheld events) ++ as_messages names told
events_messages names position [] told = refl
events_messages names position (e ∷ events) told =
    event_message names position e (events_told position events ++ told) ∙ ap (λ os. say position (event_unheld e) ∷ os) (events_messages names position events told)

pub uses_events : (names : List (List ℕ)) (position : ℕ) (events : List EventData) (told : List Told) → Uses names told → Uses names (events_told position events ++ told)
unfolding Uses
uses_events names position [] told u = u
uses_events names position (e ∷ events) told u = uses_events names position events told u

-- ---- Progress, and the answer

progress_unheld : List ℕ → ℕ → Unheld
progress_unheld token address = some_progress token (progress_data address)

-- what the caller is told, as it is sent
unfoldable pub caller_unheld : List ℕ → List ℕ → Answered → List Unheld
caller_unheld token [] answer = answer_of token answer ∷ []
caller_unheld token (address ∷ progress) answer = some_progress token (progress_data address) ∷ caller_unheld token progress answer

answer_messages : (token : List ℕ) (position : ℕ) (through : Bool) (answer : Answered) → as_messages (token ∷ []) (answer_told position through answer ∷ []) ≡ say position (answer_of token answer) ∷ []
answer_messages token position through Unknown = refl
answer_messages token position through (Result body) = refl

pub caller_messages : (token : List ℕ) (position : ℕ) (through : Bool) (progress : List ℕ) (answer : Answered)
    → as_messages (token ∷ []) (map (λ address. progress_at position (progress_data address)) progress ++ answer_told position through answer ∷ []) ≡ map (say position) (caller_unheld token progress answer)
unfolding caller_unheld
caller_messages token position through [] answer = answer_messages token position through answer
caller_messages token position through (address ∷ progress) answer =
    ap (λ os. say position (some_progress token (progress_data address)) ∷ os) (caller_messages token position through progress answer)

uses_answer : (token : List ℕ) (position : ℕ) (through : Bool) (answer : Answered) → Uses (token ∷ []) (answer_told position through answer ∷ [])
unfolding Uses
uses_answer token position through Unknown = refl
uses_answer token position through (Result body) = refl

pub uses_caller : (token : List ℕ) (position : ℕ) (through : Bool) (progress : List ℕ) (answer : Answered)
    → Uses (token ∷ []) (map (λ address. progress_at position (progress_data address)) progress ++ answer_told position through answer ∷ [])
unfolding Uses
uses_caller token position through [] answer = uses_answer token position through answer
uses_caller token position through (address ∷ progress) answer = uses_caller token position through progress answer
