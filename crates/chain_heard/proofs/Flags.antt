-- Of what a legal history tells a channel there is a final answer for each command that the channel executes, in order.
use Rattle.std.proofs.Common.{◌≡◌, ℕ, ◌+◌, ◌==◌, Bool, true, false, cond, true≢false, List, [], ◌∷◌, ◌++◌, length, map, refl, ap, ap₂, sym, ◌∙◌, subst, eqb-true}
use Rattle.std.specs.Prelude.{Option, Some, None}
use Rattle.std.specs.List.{flat_map}
use Rattle.std.proofs.lemmas.List.{append_assoc, map-append}
use Rattle.std.proofs.lemmas.List.Concat.{flat_map-append}
use Rattle.command_tables.specs.declared.reading.Reading.{Reading}
use Rattle.target_contexts.specs.declared.process.Image.{Image}
use Rattle.tcf_values.specs.declared.event.EventData.{EventData}
use Rattle.target_hub.specs.Answering.{executed}
use Rattle.target_hub.specs.History.{IsAllowed, IsLegal, input_after, inputs_after, is_live}
use Rattle.target_hub.specs.HubValue.{TargetValue, new_target}
use Rattle.target_hub.specs.Passing.{closed_told, tick_told}
use Rattle.target_hub.specs.Sent.{ReadCommand, Told, agent_services, answer_told, caller_told, event_at, events_told, executed_by, executed_on, final_at, hello_at, is_through, progress_at, progress_data, sent, sent_after, tick_events_told, told_by, told_while_live, unknown_at}
use Rattle.target_hub.specs.declared.done.Answered.{Answered}
use Rattle.target_hub.specs.declared.done.Answered.TheVariants.{Unknown, Result}
use Rattle.target_hub.specs.declared.done.Done.{Done}
use Rattle.target_hub.specs.declared.input.Input.{Input}
use Rattle.target_hub.specs.declared.input.Input.TheVariants.{Opened, Executed, Ticked, Closed}
use Rattle.chain_told.proofs.Agents.Sending.{inputs_push, still_live}

-- whether a final answer goes to a through command
abbrev pub flags_of : Told → List Bool
flags_of (hello_at place body) = []
flags_of (event_at place service name body) = []
flags_of (progress_at place body) = []
flags_of (final_at place through body) = through ∷ []
flags_of (unknown_at place through) = through ∷ []

abbrev pub flag_of : ReadCommand → Bool
flag_of c = is_through c.reading

events_unflagged : (position : ℕ) (events : List EventData) → flat_map flags_of (events_told position events) ≡ []
events_unflagged position [] = refl
events_unflagged position (event ∷ events) = events_unflagged position events

progress_unflagged : (position : ℕ) (addresses : List ℕ) → flat_map flags_of (map (λ address. progress_at position (progress_data address)) addresses) ≡ []
progress_unflagged position [] = refl
progress_unflagged position (address ∷ addresses) = progress_unflagged position addresses

answer_flagged : (position : ℕ) (through : Bool) (answer : Answered) → flat_map flags_of (answer_told position through answer ∷ []) ≡ through ∷ []
answer_flagged position through Unknown = refl
answer_flagged position through (Result body) = refl

caller_flagged : (position : ℕ) (reading : Reading) (done : Done) → flat_map flags_of (caller_told position reading done) ≡ is_through reading ∷ []
caller_flagged position reading done =
    flat_map-append flags_of (map (λ address. progress_at position (progress_data address)) done.progress) (answer_told position (is_through reading) done.answer ∷ [])
    ∙ ap₂ (λ xs ys. xs ++ ys) (progress_unflagged position done.progress) (answer_flagged position (is_through reading) done.answer)

unflagged_if : (live : Bool) (told : List Told) → flat_map flags_of told ≡ [] → flat_map flags_of (cond live told []) ≡ []
unflagged_if true told none = none
unflagged_if false told none = refl

flagged_if : (live own : Bool) (events caller : List Told) (c : ReadCommand) → flat_map flags_of events ≡ [] → flat_map flags_of caller ≡ flag_of c ∷ [] → (own ≡ true → live ≡ true)
    → flat_map flags_of (cond live (events ++ cond own caller []) []) ≡ map flag_of (cond own (c ∷ []) [])
flagged_if true true events caller c none one is = flat_map-append flags_of events caller ∙ ap₂ (λ xs ys. xs ++ ys) none one
flagged_if true false events caller c none one is = flat_map-append flags_of events [] ∙ ap (λ xs. xs ++ []) none
flagged_if false true events caller c none one is = absurd (true≢false (sym (is refl)))
flagged_if false false events caller c none one is = refl

greeting_unflagged : (own : Bool) (position : ℕ) → flat_map flags_of (cond own (hello_at position agent_services ∷ []) []) ≡ []
greeting_unflagged true position = refl
greeting_unflagged false position = refl

tick_unflagged : (position : ℕ) (told : Option (List EventData)) → flat_map flags_of (tick_events_told position told) ≡ []
tick_unflagged position None = refl
tick_unflagged position (Some events) = events_unflagged position events

flags_by : (k : ℕ) (before : List Input) (target : TargetValue) (input : Input) → IsAllowed before target input
    → flat_map flags_of (told_while_live k before target input) ≡ map flag_of (executed_by k input)
flags_by k before target (Opened channel) allowed =
    unflagged_if (is_live k (before ++ Opened channel ∷ [])) (told_by k (length before + 1) target (Opened channel)) (greeting_unflagged (channel == k) (length before + 1))
flags_by k before target (Executed channel reading service name) allowed =
    let input = Executed channel reading service name in
    let done = executed channel service name reading target in
    let place : ℕ = length before + 1 in
    flagged_if (is_live k (before ++ input ∷ [])) (channel == k) (events_told place done.events) (caller_told place reading done) (record { reading = reading; service = service; name = name })
    (events_unflagged place done.events) (caller_flagged place reading done)
    (λ is. still_live k before input refl refl ∙ subst (λ n. is_live n before ≡ true) (eqb-true channel k is) allowed.0)
flags_by k before target (Ticked thread) allowed =
    unflagged_if (is_live k (before ++ Ticked thread ∷ [])) (told_by k (length before + 1) target (Ticked thread)) (tick_unflagged (length before + 1) (tick_told thread target))
flags_by k before target (Closed channel) allowed =
    unflagged_if (is_live k (before ++ Closed channel ∷ [])) (told_by k (length before + 1) target (Closed channel)) (events_unflagged (length before + 1) (closed_told channel target))

flags_after : (k : ℕ) (images : List Image) (history before inputs : List Input) (target : TargetValue) → IsLegal images history → history ≡ before ++ inputs
    → target ≡ inputs_after before (new_target images) → flat_map flags_of (sent_after k before target inputs) ≡ map flag_of (executed_on k inputs)
flags_after k images history before [] target legal split made = refl
flags_after k images history before (input ∷ inputs) target legal split made =
    let allowed : IsAllowed before target input = subst (λ t. IsAllowed before t input) (sym made) (legal before input inputs split) in
    flat_map-append flags_of (told_while_live k before target input) (sent_after k (before ++ input ∷ []) (input_after input target) inputs)
    ∙ ap₂ (λ xs ys. xs ++ ys) (flags_by k before target input allowed)
    (flags_after k images history (before ++ input ∷ []) inputs (input_after input target) legal (split ∙ sym (append_assoc before (input ∷ []) inputs))
    (ap (input_after input) made ∙ sym (inputs_push before input (new_target images))))
    ∙ sym (map-append flag_of (executed_by k input) (executed_on k inputs))

-- there is one for each command that k executes, in order
pub flags_sent : (images : List Image) (history : List Input) (k : ℕ) → IsLegal images history → flat_map flags_of (sent images k history) ≡ map flag_of (executed_on k history)
flags_sent images history k legal = flags_after k images history [] history (new_target images) legal refl refl
