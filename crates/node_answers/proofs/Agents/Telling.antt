-- What a history tells a channel has one final answer to each command that the channel executes, in order, and can be sent.
use Rattle.std.proofs.Common.{◌≡◌, ℕ, ◌+◌, ◌≤◌, ◌==◌, Bool, true, false, true≢false, cond, List, [], ◌∷◌, ◌++◌, length, map, Option, Some, None, IfSome, refl, sym, ap, ◌∙◌, subst, arith, append_assoc, eqb-true, length-append}
use Rattle.std.specs.Prelude.{decimal}
use Rattle.json_values.specs.SizeLaws.{decimal_size}
use Rattle.channel_core.specs.Wire.{hello, is_done, is_redirect, locator}
use Rattle.command_tables.specs.declared.reading.Reading.{Reading}
use Rattle.target_contexts.specs.declared.process.Image.{Image}
use Rattle.tcf_message.specs.Message.{IsWellFormed, event, most_body}
use Rattle.tcf_values.specs.declared.event.EventData.{EventData}
use Rattle.target_hub.specs.Answering.{executed}
use Rattle.target_hub.specs.History.{IsAllowed, IsLegal, input_after, inputs_after, is_live}
use Rattle.target_hub.specs.HubValue.{TargetValue, new_target}
use Rattle.target_hub.specs.Passing.{closed_told, tick_told}
use Rattle.target_hub.specs.Sendable.{AreSendable, IsBounded, IsSendable}
use Rattle.target_hub.specs.Sent.{ReadCommand, Told, agent_services, answer_told, caller_told, event_at, events_told, executed_by, executed_on, final_at, hello_at, is_through, progress_at, progress_data, sent, sent_after, tick_events_told, told_by, told_while_live, unknown_at}
use Rattle.target_hub.specs.declared.done.Answered.{Answered}
use Rattle.target_hub.specs.declared.done.Answered.TheVariants.{Result, Unknown}
use Rattle.target_hub.specs.declared.done.Done.{Done}
use Rattle.target_hub.specs.declared.input.Input.{Input}
use Rattle.target_hub.specs.declared.input.Input.TheVariants.{Closed, Executed, Opened, Ticked}
use Rattle.agent_node.proofs.Histories.{inputs_more, live_same}
use Rattle.target_hub.proofs.TheLaws.{answers_are_sendable, closings_tell_sendable, commands_tell_sendable, stays_bounded, ticks_tell_sendable}
use Rattle.node_answers.proofs.Agents.Refusing.{Refuses, redirect_refused}
use Rattle.target_hub.proofs.Bounded.{front_legal}

pub agent_hello : IsWellFormed (event locator hello agent_services)
unfolding locator hello agent_services
agent_hello = ((refl, refl), omega arith)

pub progress_size : (address : ℕ) → length (progress_data address) ≤ most_body
progress_size address = omega (arith, length-append (decimal address) (0 ∷ []), decimal_size address)

-- ---- What comes

abbrev pub FirstIs : (ReadCommand → Type 0) → List ReadCommand → Type 0
FirstIs P [] = ⊥
FirstIs P (c ∷ asked) = P c

abbrev pub IsAny : ReadCommand → Type 0
IsAny c = Unit {0}

-- the data of an answer to it has an error, where it is a redirect
abbrev pub IsDoneNot : List ℕ → ReadCommand → Type 0
IsDoneNot body c = is_redirect c.service c.name ≡ true → is_done body ≡ false

-- a message, where these commands have no answer yet
abbrev pub Comes : List ReadCommand → Told → Type 0
Comes asked (hello_at position body) = IsWellFormed (event locator hello body)
Comes asked (event_at position service name body) = IsWellFormed (event service name body)
Comes asked (progress_at position body) = (length body ≤ most_body) × FirstIs IsAny asked
Comes asked (final_at position through body) = (length body ≤ most_body) × FirstIs (IsDoneNot body) asked
Comes asked (unknown_at position through) = FirstIs IsAny asked

abbrev pub others : List ReadCommand → List ReadCommand
others [] = []
others (c ∷ asked) = asked

abbrev pub open_after : Told → List ReadCommand → List ReadCommand
open_after (hello_at position body) asked = asked
open_after (event_at position service name body) asked = asked
open_after (progress_at position body) asked = asked
open_after (final_at position through body) asked = others asked
open_after (unknown_at position through) asked = others asked

-- each of them gets its answer
abbrev pub Come : List ReadCommand → List Told → Type 0
Come asked [] = asked ≡ []
Come asked (now ∷ told) = Comes asked now × Come (open_after now asked) told

-- ---- The messages of one input

events_come : (position : ℕ) (events : List EventData) (asked : List ReadCommand) (rest : List Told) → AreSendable events → Come asked rest → Come asked (events_told position events ++ rest)
events_come position [] asked rest each come = come
events_come position (first ∷ events) asked rest each come = (((each.0.service, each.0.name), each.0.size), events_come position events asked rest each.1 come)

tick_come : (position : ℕ) (events : Option (List EventData)) (asked : List ReadCommand) (rest : List Told) → IfSome events AreSendable → Come asked rest → Come asked (tick_events_told position events ++ rest)
tick_come position None asked rest each come = come
tick_come position (Some events) asked rest each come = events_come position events asked rest each come

progress_come : (position : ℕ) (addresses : List ℕ) (c : ReadCommand) (asked : List ReadCommand) (rest : List Told) → Come (c ∷ asked) rest
    → Come (c ∷ asked) (map (λ address. progress_at position (progress_data address)) addresses ++ rest)
progress_come position [] c asked rest come = come
progress_come position (address ∷ addresses) c asked rest come = ((progress_size address, tt), progress_come position addresses c asked rest come)

-- it can be sent, and one to a redirect has an error
pub record IsAnswer (c : ReadCommand) (answer : Answered) : Type 0 where
  pub sendable : IsSendable answer
  pub refuses : is_redirect c.service c.name ≡ true → Refuses answer

answer_come : (position : ℕ) (through : Bool) (answer : Answered) (c : ReadCommand) (asked : List ReadCommand) (rest : List Told) → IsAnswer c answer → Come asked rest
    → Come (c ∷ asked) (answer_told position through answer ∷ rest)
answer_come position through Unknown c asked rest is come = (tt, come)
answer_come position through (Result body) c asked rest is come = ((is.sendable, is.refuses), come)

abbrev as_read : Reading → List ℕ → List ℕ → ReadCommand
as_read reading service name = record { reading = reading; service = service; name = name }

caller_come : (position : ℕ) (reading : Reading) (service name : List ℕ) (done : Done) (asked : List ReadCommand) (rest : List Told) → IsAnswer (as_read reading service name) done.answer → Come asked rest
    → Come (as_read reading service name ∷ asked) (caller_told position reading done ++ rest)
caller_come position reading service name done asked rest is come =
    let addresses = map (λ address. progress_at position (progress_data address)) done.progress in
    let answer = answer_told position (is_through reading) done.answer in
    let c = as_read reading service name in
    subst (Come (c ∷ asked)) (sym (append_assoc addresses (answer ∷ []) rest))
    (progress_come position done.progress c asked (answer ∷ rest) (answer_come position (is_through reading) done.answer c asked rest is come))

executed_come : (live own : Bool) (position : ℕ) (reading : Reading) (service name : List ℕ) (done : Done) (asked : List ReadCommand) (rest : List Told) → AreSendable done.events
    → IsAnswer (as_read reading service name) done.answer → (own ≡ true → live ≡ true) → Come asked rest
    → Come (cond own (as_read reading service name ∷ []) [] ++ asked) (cond live (events_told position done.events ++ cond own (caller_told position reading done) []) [] ++ rest)
executed_come true true position reading service name done asked rest each is lives come =
    let c = as_read reading service name in
    subst (Come (c ∷ asked)) (sym (append_assoc (events_told position done.events) (caller_told position reading done) rest))
    (events_come position done.events (c ∷ asked) (caller_told position reading done ++ rest) each (caller_come position reading service name done asked rest is come))
executed_come true false position reading service name done asked rest each is lives come =
    subst (Come asked) (sym (append_assoc (events_told position done.events) [] rest)) (events_come position done.events asked rest each come)
executed_come false true position reading service name done asked rest each is lives come = absurd (true≢false (sym (lives refl)))
executed_come false false position reading service name done asked rest each is lives come = come

come_if : (live : Bool) (asked : List ReadCommand) (told rest : List Told) → Come asked rest → Come asked (told ++ rest) → Come asked (cond live told [] ++ rest)
come_if true asked told rest without come = come
come_if false asked told rest without come = without

greeting_come : (own : Bool) (position : ℕ) (asked : List ReadCommand) (rest : List Told) → Come asked rest → Come asked (cond own (hello_at position agent_services ∷ []) [] ++ rest)
greeting_come true position asked rest come = (agent_hello, come)
greeting_come false position asked rest come = come

-- ---- Of each input, and of all

input_come : (k : ℕ) (before : List Input) (target : TargetValue) (input : Input) (asked : List ReadCommand) (rest : List Told) → IsAllowed before target input → IsBounded target → Come asked rest
    → Come (executed_by k input ++ asked) (told_while_live k before target input ++ rest)
input_come k before target (Opened channel) asked rest allowed bounded come =
    come_if (is_live k (before ++ Opened channel ∷ [])) asked (told_by k (length before + 1) target (Opened channel)) rest come
    (greeting_come (channel == k) (length before + 1) asked rest come)
input_come k before target (Executed channel reading service name) asked rest allowed bounded come =
    let input = Executed channel reading service name in
    let done = executed channel service name reading target in
    executed_come (is_live k (before ++ input ∷ [])) (channel == k) (length before + 1) reading service name done asked rest
    (commands_tell_sendable channel service name reading target allowed.1 bounded)
    (record { sendable = answers_are_sendable channel service name reading target bounded; refuses = redirect_refused channel service name reading target allowed.1 })
    (λ is. live_same k before input refl refl ∙ subst (λ n. is_live n before ≡ true) (eqb-true channel k is) allowed.0) come
input_come k before target (Ticked thread) asked rest allowed bounded come =
    come_if (is_live k (before ++ Ticked thread ∷ [])) asked (told_by k (length before + 1) target (Ticked thread)) rest come
    (tick_come (length before + 1) (tick_told thread target) asked rest (ticks_tell_sendable thread target bounded) come)
input_come k before target (Closed channel) asked rest allowed bounded come =
    come_if (is_live k (before ++ Closed channel ∷ [])) asked (told_by k (length before + 1) target (Closed channel)) rest come
    (events_come (length before + 1) (closed_told channel target) asked rest (closings_tell_sendable channel target bounded) come)

come_after : (k : ℕ) (images : List Image) (before : List Input) (target : TargetValue) (inputs : List Input) → IsLegal images (before ++ inputs) → target ≡ inputs_after before (new_target images)
    → Come (executed_on k inputs) (sent_after k before target inputs)
come_after k images before target [] legal made = refl
come_after k images before target (input ∷ inputs) legal made =
    let allowed : IsAllowed before target input = subst (λ t. IsAllowed before t input) (sym made) (legal before input inputs refl) in
    let bounded : IsBounded target = subst IsBounded (sym made) (stays_bounded images before (front_legal images before (input ∷ inputs) legal)) in
    input_come k before target input (executed_on k inputs) (sent_after k (before ++ input ∷ []) (input_after input target) inputs) allowed bounded
    (come_after k images (before ++ input ∷ []) (input_after input target) inputs (subst (IsLegal images) (sym (append_assoc before (input ∷ []) inputs)) legal)
    (ap (input_after input) made ∙ sym (inputs_more before input (new_target images))))

pub all_come : (images : List Image) (history : List Input) (k : ℕ) → IsLegal images history → Come (executed_on k history) (sent images k history)
all_come images history k legal = come_after k images [] (new_target images) history legal refl
