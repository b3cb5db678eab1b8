-- What a legal history tells a channel that it opens: the Hello first, then messages of which the positions don't go back.
use Rattle.std.proofs.Common.{◌≡◌, ℕ, ◌+◌, ◌≤◌, ◌==◌, Bool, true, false, not, ◌&&◌, ◌||◌, cond, true≢false, List, [], ◌∷◌, ◌++◌, length, map, refl, ap, ap₂, sym, ◌∙◌, subst, arith, le_refl, length-append, eqb-true, eq-eqb}
use Rattle.std.specs.Prelude.{Option, Some, None, IfSome, bytes_eq}
use Rattle.std.specs.List.{AllByRecursion}
use Rattle.std.proofs.lemmas.List.{append_assoc, append-nil}
use Rattle.std.proofs.lemmas.List.Folds.{list_any-append}
use Rattle.std.proofs.lemmas.Bool.{or_from}
use Rattle.channel_core.specs.Wire.{hello, locator}
use Rattle.command_tables.specs.declared.reading.Reading.{Reading}
use Rattle.service_names.specs.Events.{name_of, service_of, told_as}
use Rattle.target_contexts.specs.declared.process.Image.{Image}
use Rattle.tcf_values.specs.declared.event.EventData.{EventData}
use Rattle.target_hub.specs.Answering.{executed}
use Rattle.target_hub.specs.History.{IsAllowed, IsLegal, closes, input_after, inputs_after, is_live, opens, was_closed, was_opened}
use Rattle.target_hub.specs.HubValue.{TargetValue, new_target}
use Rattle.target_hub.specs.Ordered.{OpensAt}
use Rattle.target_hub.specs.Passing.{closed_told, tick_told}
use Rattle.target_hub.specs.Sent.{Told, agent_services, answer_told, caller_told, event_at, event_told, events_told, final_at, hello_at, is_through, progress_at, progress_data, sent, sent_after, tick_events_told, told_by, told_while_live, unknown_at}
use Rattle.target_hub.specs.declared.done.Answered.{Answered}
use Rattle.target_hub.specs.declared.done.Answered.TheVariants.{Unknown, Result}
use Rattle.target_hub.specs.declared.done.Done.{Done}
use Rattle.target_hub.specs.declared.input.Input.{Input}
use Rattle.target_hub.specs.declared.input.Input.TheVariants.{Opened, Executed, Ticked, Closed}
use Rattle.target_hub.proofs.TheLaws.{closings_tell_no_hello, commands_tell_no_hello, ticks_tell_no_hello}
use Rattle.target_hub.specs.Laws.{AreNoHello, IsNoHello}
use Rattle.list_laws.proofs.Flags.{second_false, or_false as or_none}
use Rattle.list_laws.proofs.AllLists.{all_append, all_each, all_map_then, all_test}

-- ---- after the Hello

-- the names of the event `Locator Hello`
abbrev pub is_hello : List ℕ → List ℕ → Bool
is_hello service name = bytes_eq service locator && bytes_eq name hello

abbrev pub place_of : Told → ℕ
place_of (hello_at place body) = place
place_of (event_at place service name body) = place
place_of (progress_at place body) = place
place_of (final_at place through body) = place
place_of (unknown_at place through) = place

-- a message at this position or a later one, which is no Hello
abbrev pub IsLater : ℕ → Told → Type 0
IsLater position (hello_at place body) = ⊥
IsLater position (event_at place service name body) = (position ≤ place) × (is_hello service name ≡ false)
IsLater position (progress_at place body) = position ≤ place
IsLater position (final_at place through body) = position ≤ place
IsLater position (unknown_at place through) = position ≤ place

abbrev pub Climbs : ℕ → List Told → Type 0
Climbs position [] = Unit {0}
Climbs position (told ∷ rest) = IsLater position told × Climbs (place_of told) rest

-- a message at this very position
abbrev IsAt : ℕ → Told → Type 0
IsAt position told = IsLater position told × (place_of told ≡ position)

later_from : (low high : ℕ) → low ≤ high → (told : Told) → IsLater high told → IsLater low told
later_from low high below (hello_at place body) later = later
later_from low high below (event_at place service name body) later = let above : high ≤ place = later.0 in (omega arith, later.1)
later_from low high below (progress_at place body) later = omega arith
later_from low high below (final_at place through body) later = omega arith
later_from low high below (unknown_at place through) later = omega arith

climbs_on : (position : ℕ) (here rest : List Told) → AllByRecursion (IsAt position) here → ((low : ℕ) → low ≤ position → Climbs low rest) → (low : ℕ) → low ≤ position → Climbs low (here ++ rest)
climbs_on position [] rest all further low below = further low below
climbs_on position (told ∷ here) rest all further low below =
    (later_from low position below told all.0.0, subst (λ place. Climbs place (here ++ rest)) (sym all.0.1) (climbs_on position here rest all.1 further position (le_refl position)))

-- ---- the messages of one input

event_plain : (event : EventData) → IsNoHello event → is_hello (service_of (told_as event)) (name_of (told_as event)) ≡ false
unfolding hello locator
event_plain (EventData.Hello list) none = absurd none
event_plain event none = refl

events_at : (position : ℕ) (events : List EventData) → AreNoHello events → AllByRecursion (IsAt position) (events_told position events)
events_at position events none = all_map_then (IsAt position) IsNoHello (event_told position) events (λ event plain. ((le_refl position, event_plain event plain), refl)) none

answer_at : (position : ℕ) (through : Bool) (answer : Answered) → IsAt position (answer_told position through answer)
answer_at position through Unknown = (le_refl position, refl)
answer_at position through (Result body) = (le_refl position, refl)

caller_at : (position : ℕ) (reading : Reading) (done : Done) → AllByRecursion (IsAt position) (caller_told position reading done)
caller_at position reading done =
    all_append (IsAt position) (map (λ address. progress_at position (progress_data address)) done.progress) (answer_told position (is_through reading) done.answer ∷ [])
    (all_map_then (IsAt position) (λ (address : ℕ). Unit {0}) (λ address. progress_at position (progress_data address)) done.progress (λ address none. (le_refl position, refl))
    (all_each (λ (address : ℕ). Unit {0}) done.progress (λ address. tt)))
    (answer_at position (is_through reading) done.answer, tt)

tick_at : (position : ℕ) (told : Option (List EventData)) → IfSome told AreNoHello → AllByRecursion (IsAt position) (tick_events_told position told)
tick_at position None none = tt
tick_at position (Some events) none = events_at position events none

told_at : (k position : ℕ) (target : TargetValue) (input : Input) → opens k input ≡ false → AllByRecursion (IsAt position) (told_by k position target input)
told_at k position target (Opened channel) other =
    all_test (IsAt position) (channel == k) (hello_at position agent_services ∷ []) [] (λ is. absurd (true≢false (sym is ∙ other))) (λ _. tt)
told_at k position target (Executed channel reading service name) other =
    let done = executed channel service name reading target in
    all_append (IsAt position) (events_told position done.events) (cond (channel == k) (caller_told position reading done) [])
    (events_at position done.events (commands_tell_no_hello channel service name reading target))
    (all_test (IsAt position) (channel == k) (caller_told position reading done) [] (λ _. caller_at position reading done) (λ _. tt))
told_at k position target (Ticked thread) other = tick_at position (tick_told thread target) (ticks_tell_no_hello thread target)
told_at k position target (Closed channel) other = events_at position (closed_told channel target) (closings_tell_no_hello channel target)

live_at : (k : ℕ) (before : List Input) (target : TargetValue) (input : Input) → opens k input ≡ false → AllByRecursion (IsAt (length before + 1)) (told_while_live k before target input)
live_at k before target input other =
    all_test (IsAt (length before + 1)) (is_live k (before ++ input ∷ [])) (told_by k (length before + 1) target input) []
    (λ _. told_at k (length before + 1) target input other) (λ _. tt)

first_false : (a b : Bool) → (a || b) ≡ false → a ≡ false
first_false true b neither = absurd (true≢false neither)
first_false false b neither = refl

climbs_after : (k : ℕ) (before : List Input) (target : TargetValue) (inputs : List Input) → was_opened k inputs ≡ false → (low : ℕ) → low ≤ length before + 1 → Climbs low (sent_after k before target inputs)
climbs_after k before target [] none low below = tt
climbs_after k before target (input ∷ inputs) none low below =
    let longer : length (before ++ input ∷ []) ≡ length before + 1 = omega (arith, length-append before (input ∷ [])) in
    climbs_on (length before + 1) (told_while_live k before target input) (sent_after k (before ++ input ∷ []) (input_after input target) inputs)
    (live_at k before target input (first_false (opens k input) (was_opened k inputs) none))
    (λ next within. climbs_after k (before ++ input ∷ []) (input_after input target) inputs (second_false (opens k input) (was_opened k inputs) none) next (omega arith))
    low below

-- ---- one more input

pub inputs_push : (xs : List Input) (input : Input) (target : TargetValue) → inputs_after (xs ++ input ∷ []) target ≡ input_after input (inputs_after xs target)
inputs_push [] input target = refl
inputs_push (x ∷ xs) input target = inputs_push xs input (input_after x target)

opened_push : (k : ℕ) (before : List Input) (input : Input) → was_opened k (before ++ input ∷ []) ≡ (was_opened k before || opens k input)
opened_push k before input = list_any-append (opens k) before (input ∷ []) ∙ ap (λ b. was_opened k before || b) (or_none (opens k input))

closed_push : (k : ℕ) (before : List Input) (input : Input) → was_closed k (before ++ input ∷ []) ≡ (was_closed k before || closes k input)
closed_push k before input = list_any-append (closes k) before (input ∷ []) ∙ ap (λ b. was_closed k before || b) (or_none (closes k input))

front_opened : (k : ℕ) (xs ys : List Input) → was_opened k (xs ++ ys) ≡ false → was_opened k xs ≡ false
front_opened k xs ys none = first_false (was_opened k xs) (was_opened k ys) (sym (list_any-append (opens k) xs ys) ∙ none)

pub still_live : (k : ℕ) (before : List Input) (input : Input) → opens k input ≡ false → closes k input ≡ false → is_live k (before ++ input ∷ []) ≡ is_live k before
still_live k before input unopened unclosing =
    ap₂ (λ a b. a && not b)
    (opened_push k before input ∙ ap (λ b. was_opened k before || b) unopened ∙ or_none (was_opened k before))
    (closed_push k before input ∙ ap (λ b. was_closed k before || b) unclosing ∙ or_none (was_closed k before))

-- ---- before the opening the channel isn't live

silent_before : (k : ℕ) (before : List Input) (target : TargetValue) (input : Input) → was_opened k (before ++ input ∷ []) ≡ false → told_while_live k before target input ≡ []
silent_before k before target input none =
    ap (λ b. cond (b && not (was_closed k (before ++ input ∷ []))) (told_by k (length before + 1) target input) []) none

pub passed : (k : ℕ) (before : List Input) (target : TargetValue) (inputs rest : List Input) → was_opened k before ≡ false → was_opened k inputs ≡ false
    → sent_after k before target (inputs ++ rest) ≡ sent_after k (before ++ inputs) (inputs_after inputs target) rest
passed k before target [] rest unopened none = ap (λ xs. sent_after k xs target rest) (sym (append-nil before))
passed k before target (input ∷ inputs) rest unopened none =
    let still : was_opened k (before ++ input ∷ []) ≡ false =
    opened_push k before input ∙ or_from (was_opened k before) (opens k input) unopened (first_false (opens k input) (was_opened k inputs) none) in
    ap (λ told. told ++ sent_after k (before ++ input ∷ []) (input_after input target) (inputs ++ rest)) (silent_before k before target input still)
    ∙ passed k (before ++ input ∷ []) (input_after input target) inputs rest still (second_false (opens k input) (was_opened k inputs) none)
    ∙ ap (λ xs. sent_after k xs (inputs_after inputs (input_after input target)) rest) (append_assoc before (input ∷ []) inputs)

-- ---- a channel opens once, and closes only behind that

no_closing : (k : ℕ) (before : List Input) (target : TargetValue) (input : Input) → IsAllowed before target input → was_opened k before ≡ false → closes k input ≡ false
no_closing k before target (Opened channel) allowed none = refl
no_closing k before target (Executed channel reading service name) allowed none = refl
no_closing k before target (Ticked thread) allowed none = refl
no_closing k before target (Closed channel) allowed none = by_flag (channel == k) refl
  where
    opened_of : (a b : Bool) → (a && b) ≡ true → a ≡ true
    opened_of true b both = refl
    opened_of false b both = absurd (true≢false (sym both))

    by_flag : (b : Bool) → (channel == k) ≡ b → b ≡ false
    by_flag false is = refl
    by_flag true is =
        let was : was_opened channel before ≡ true = opened_of (was_opened channel before) (not (was_closed channel before)) allowed in
        absurd (true≢false (sym was ∙ subst (λ n. was_opened n before ≡ false) (sym (eqb-true channel k is)) none))

unclosed : (k : ℕ) (images : List Image) (history before inputs rest : List Input) → IsLegal images history → history ≡ before ++ (inputs ++ rest)
    → was_opened k (before ++ inputs) ≡ false → was_closed k inputs ≡ false
unclosed k images history before [] rest legal split none = refl
unclosed k images history before (input ∷ inputs) rest legal split none =
    let allowed = legal before input (inputs ++ rest) split in
    let together = append_assoc before (input ∷ []) inputs in
    or_from (closes k input) (was_closed k inputs)
    (no_closing k before (inputs_after before (new_target images)) input allowed (front_opened k before (input ∷ inputs) none))
    (unclosed k images history (before ++ input ∷ []) inputs rest legal (split ∙ sym (append_assoc before (input ∷ []) (inputs ++ rest)))
    (ap (was_opened k) together ∙ none))

no_opening : (k : ℕ) (before : List Input) (target : TargetValue) (input : Input) → IsAllowed before target input → was_opened k before ≡ true → opens k input ≡ false
no_opening k before target (Opened channel) allowed was = by_flag (channel == k) refl
  where
    by_flag : (b : Bool) → (channel == k) ≡ b → b ≡ false
    by_flag false is = refl
    by_flag true is = absurd (true≢false (sym was ∙ subst (λ n. was_opened n before ≡ false) (eqb-true channel k is) allowed))
no_opening k before target (Executed channel reading service name) allowed was = refl
no_opening k before target (Ticked thread) allowed was = refl
no_opening k before target (Closed channel) allowed was = refl

opened_once : (k : ℕ) (images : List Image) (history before inputs : List Input) → IsLegal images history → history ≡ before ++ inputs
    → was_opened k before ≡ true → was_opened k inputs ≡ false
opened_once k images history before [] legal split was = refl
opened_once k images history before (input ∷ inputs) legal split was =
    or_from (opens k input) (was_opened k inputs)
    (no_opening k before (inputs_after before (new_target images)) input (legal before input inputs split) was)
    (opened_once k images history (before ++ input ∷ []) inputs legal (split ∙ sym (append_assoc before (input ∷ []) inputs))
    (opened_push k before input ∙ ap (λ b. b || opens k input) was))

-- ---- the Hello comes first

pub record Begins (images : List Image) (history : List Input) (k position : ℕ) : Type 0 where
  pub rest : List Told
  pub first : sent images k history ≡ hello_at position agent_services ∷ rest
  pub climbs : Climbs position rest

greeted : (k position : ℕ) (live : Bool) (input : ℕ) → live ≡ true → (input == k) ≡ true
    → cond live (cond (input == k) (hello_at position agent_services ∷ []) []) [] ≡ hello_at position agent_services ∷ []
greeted k position live input is same =
    ap (λ b. cond b (cond (input == k) (hello_at position agent_services ∷ []) []) []) is ∙ ap (λ b. cond b (hello_at position agent_services ∷ []) []) same

pub begins : (images : List Image) (history : List Input) (k position : ℕ) → IsLegal images history → OpensAt history position k → Begins images history k position
begins images history k position legal opened =
    let before = opened.before in
    let target : TargetValue = inputs_after before (new_target images) in
    let same : (k == k) ≡ true = eq-eqb k k refl in
    let unopened : was_opened k before ≡ false = legal before (Opened k) opened.after opened.split in
    let unended : was_closed k before ≡ false = unclosed k images history [] before (Opened k ∷ opened.after) legal opened.split unopened in
    let now : was_opened k (before ++ Opened k ∷ []) ≡ true = opened_push k before (Opened k) ∙ ap₂ (λ a b. a || b) unopened same in
    let shut : was_closed k (before ++ Opened k ∷ []) ≡ false = closed_push k before (Opened k) ∙ ap (λ b. b || false) unended in
    let live : is_live k (before ++ Opened k ∷ []) ≡ true = ap₂ (λ a b. a && not b) now shut in
    let further : List Told = sent_after k (before ++ Opened k ∷ []) target opened.after in
    let longer : length (before ++ Opened k ∷ []) ≡ length before + 1 = omega (arith, length-append before (Opened k ∷ [])) in
    let place = opened.place in
    let low : position ≤ length (before ++ Opened k ∷ []) + 1 = omega arith in
    record {
      rest = further;
      first =
          ap (λ inputs. sent images k inputs) opened.split
          ∙ passed k [] (new_target images) before (Opened k ∷ opened.after) refl unopened
          ∙ ap (λ told. told ++ further) (greeted k (length before + 1) (is_live k (before ++ Opened k ∷ [])) k live same)
          ∙ ap (λ n. hello_at n agent_services ∷ further) (sym place);
      climbs = climbs_after k (before ++ Opened k ∷ []) target opened.after
          (opened_once k images history (before ++ Opened k ∷ []) opened.after legal (opened.split ∙ sym (append_assoc before (Opened k ∷ []) opened.after)) now)
          position low;
    }
