-- What is taken from an end that isn't closed, and what is left of it.
use Rattle.std.proofs.Common.{◌≡◌, ℕ, Bool, true, false, List, [], ◌∷◌, ◌++◌, Option, Some, None, Result, Ok, Err, refl, ap, sym, subst, ◌∙◌}
use Rattle.std.specs.Prelude.{bytes_eq, decimal, if◌then◌else◌, option_map, remove, slice_get, slice_index_or}
use Rattle.std.specs.List.{AllByRecursion}
use Rattle.std.proofs.lemmas.List.Quantifiers.{position-Some}
use Rattle.std.proofs.lemmas.Slice.Eq.{bytes_eq-Decides}
use Rattle.tcf_message.specs.Message.{MessageValue, command, event, final, flow, not_known, progress, reading}
use Rattle.tcf_message.specs.declared.message.MessageFault.{MessageFault}
use Rattle.channel_core.specs.Closing.{closed_for}
use Rattle.channel_core.specs.EndValue.{EndValue}
use Rattle.channel_core.specs.Level.{leveled}
use Rattle.channel_core.specs.Taking.{answer_judged, broken, finished, is_early, is_held, judged, next_taken, place_of, progress_judged, progressed, sent_at, sent_place, stop_taken, taken_as, taken_from, unless_held}
use Rattle.channel_core.specs.Wire.{answers, asks, event_said, goes_on, greets, is_done, said_of, tells}
use Rattle.channel_core.specs.declared.held.Arrived.{Arrived}
use Rattle.channel_core.specs.declared.held.Held.{Held}
use Rattle.channel_core.specs.declared.held.Incoming.{Incoming}
use Rattle.channel_core.specs.declared.states.Cause.{Cause}
use Rattle.channel_core.specs.declared.states.Reason.{Reason}
use Rattle.channel_core.specs.declared.states.Reason.TheVariants.{Token}
use Rattle.channel_core.specs.Judged.{Judged}
use Rattle.channel_core.specs.Judged as judges
use Rattle.channel_core.specs.declared.taking.Taken.{Taken}
use Rattle.channel_core.specs.declared.taking.Taken.TheVariants as taken
use Rattle.client_node.specs.Runs.{FitsMessage, IsAnswerTo, IsHello, IsOtherEvent, IsProgressOf, is_hello}
use Rattle.client_node.proofs.Ends.{IsEnded, IsMessage, IsOpen, IsReadable, answered_open, greeted_open, leveled_open}
use Rattle.client_node.proofs.Lists.{at_place}
use Rattle.client_node.proofs.Pending.{Rises, same_at}
use Rattle.list_laws.proofs.Lists.{get_at}

-- progress of the command of this number, which is pending
pub record GoesOn (last : ℕ) (rows : List (ℕ × ℕ)) (number : ℕ) (e : EndValue ℕ) : Type 0 where
  pub front : List (ℕ × ℕ)
  pub back : List (ℕ × ℕ)
  pub row : ℕ × ℕ
  pub whole : rows ≡ front ++ row ∷ back
  pub number_is : row.1 ≡ number
  pub left : IsOpen last rows e

-- the final answer to it, which isn't pending then
pub record Finishes (last : ℕ) (rows : List (ℕ × ℕ)) (number : ℕ) (e : EndValue ℕ) : Type 0 where
  pub front : List (ℕ × ℕ)
  pub back : List (ℕ × ℕ)
  pub row : ℕ × ℕ
  pub whole : rows ≡ front ++ row ∷ back
  pub number_is : row.1 ≡ number
  pub left : IsOpen last (front ++ back) e

-- the end is closed, and what is pending can be drained
pub record Closes (rows : List (ℕ × ℕ)) (e : EndValue ℕ) : Type 0 where
  pub ended : IsEnded e
  pub pending : e.pending ≡ rows

abbrev pub Leaves : ℕ → List (ℕ × ℕ) → Taken ℕ → EndValue ℕ → Type 0
Leaves last rows (taken.Hello incoming) e = IsOpen last rows e
Leaves last rows (taken.Event incoming) e = IsOpen last rows e
Leaves last rows (taken.Command incoming) e = IsOpen last rows e
Leaves last rows (taken.Progress number incoming) e = GoesOn last rows number e
Leaves last rows (taken.Final number incoming) e = Finishes last rows number e
Leaves last rows (taken.Closed cause) e = Closes rows e

abbrev pub Outcome : ℕ → List (ℕ × ℕ) → Option (Taken ℕ) → EndValue ℕ → Type 0
Outcome last rows None e = IsOpen last rows e
Outcome last rows (Some what) e = FitsMessage what × Leaves last rows what e

abbrev Gives : ℕ → List (ℕ × ℕ) → Option (Taken ℕ) × EndValue ℕ → Type 0
Gives last rows p = Outcome last rows p.0 p.1

-- ---- the command that a token names

unheld : (flag : Bool) (place found : ℕ) → (if flag then None else Some place) ≡ Some found → place ≡ found
unheld true place found is = cc
unheld false place found is = cc

sent_there : (place found : ℕ) (row : Option (ℕ × ℕ)) (held : List Held) → unless_held place row held ≡ Some found → place ≡ found
sent_there place found None held is = cc
sent_there place found (Some row) held is = unheld (is_held row.0 held) place found is

placed : (place : Option ℕ) (found : ℕ) (rows : List (ℕ × ℕ)) (held : List Held) → sent_at place rows held ≡ Some found → place ≡ Some found
placed None found rows held is = cc
placed (Some place) found rows held is = ap (λ n. Some n) (sent_there place found (slice_get rows place) held is)

named : (token : List ℕ) (e : EndValue ℕ) (place : ℕ) (row : ℕ × ℕ) → sent_place token e ≡ Some place → slice_get e.pending place ≡ Some row → token ≡ decimal row.0
named token e place row found there =
    let test : ℕ × ℕ → Bool = λ r. bytes_eq token (decimal r.0) in
    let position_is : place_of token e.pending ≡ Some place = placed (place_of token e.pending) place e.pending e.held found in
    let passes : test (slice_index_or e.pending place row) ≡ true = (position-Some test e.pending place row position_is).1 in
    let here : test row ≡ true = sym (ap test (get_at e.pending place row there)) ∙ passes in
    (bytes_eq-Decides token (decimal row.0)).0 here

-- ---- what a message comes to

module _ (last : ℕ) (rows : List (ℕ × ℕ)) (rises : Rises 0 rows last) where
  closes : (cause : Cause) (e : EndValue ℕ) → IsOpen last rows e → Gives last rows (Some (taken.Closed cause), closed_for cause e)
  closes cause e old = (tt, record { ended = record { closed = refl; inbox = refl; stop = refl }; pending = old.pending })

  breaks : (number : ℕ) (reason : Reason) (e : EndValue ℕ) → IsOpen last rows e → Gives last rows (broken number reason e)
  breaks number reason e old = closes _ e old

  early_by : (number : ℕ) (incoming : Incoming) (flag : Bool) (what : Judged) (e : EndValue ℕ) → IsOpen last rows e → Gives last rows (taken_as number incoming what e)
      → Gives last rows (taken_as number incoming (if flag then judges.TooEarly else what) e)
  early_by number incoming true what e old gives = breaks number _ e old
  early_by number incoming false what e old gives = gives

  event_gives : (number : ℕ) (incoming : Incoming) (flag : Bool) (e : EndValue ℕ) → (flag ≡ true → IsHello (reading incoming.raw)) → (flag ≡ false → IsOtherEvent (reading incoming.raw))
      → IsOpen last rows e → Gives last rows (taken_as number incoming (judged (event_said flag) e) e)
  event_gives number incoming true e greeting other old =
      early_by number incoming (is_early e.state greets) judges.Greets e old (greeting refl, greeted_open last rows (leveled e) (leveled_open last rows e old))
  event_gives number incoming false e greeting other old =
      early_by number incoming (is_early e.state tells) judges.Tells e old (other refl, leveled_open last rows e old)

  -- progress
  progressed_gives : (number : ℕ) (incoming : Incoming) (place : ℕ) (found : Option (ℕ × ℕ)) (e : EndValue ℕ) → slice_get e.pending place ≡ found
      → ((row : ℕ × ℕ) → found ≡ Some row → IsProgressOf row.0 (reading incoming.raw)) → IsOpen last rows e
      → Gives last rows (progressed number incoming (option_map (λ row. row.0) found) e)
  progressed_gives number incoming place None e there fits old = breaks number Token e old
  progressed_gives number incoming place (Some row) e there fits old =
      let at = at_place e.pending place row there in
      let whole : rows ≡ at.front ++ row ∷ at.back = sym old.pending ∙ at.whole in
      let same : row.1 ≡ row.0 = sym (same_at 0 last at.front at.back row (subst (λ rs. Rises 0 rs last) whole rises)) in
      (fits row refl, record { front = at.front; back = at.back; row = row; whole = whole; number_is = same; left = leveled_open last rows e old })

  progress_gives : (number : ℕ) (incoming : Incoming) (token body : List ℕ) (place : Option ℕ) (e : EndValue ℕ) → reading incoming.raw ≡ Ok (progress token body)
      → sent_place token e ≡ place → IsOpen last rows e → Gives last rows (taken_as number incoming (progress_judged place) e)
  progress_gives number incoming token body None e is sent old = breaks number Token e old
  progress_gives number incoming token body (Some place) e is sent old =
      progressed_gives number incoming place (slice_get e.pending place) e refl (λ row found. rw is (named token e place row sent found)) old

  -- a final answer
  finished_gives : (number : ℕ) (incoming : Incoming) (place : ℕ) (done : Bool) (found : Option (ℕ × ℕ)) (e : EndValue ℕ) → slice_get e.pending place ≡ found
      → ((row : ℕ × ℕ) → found ≡ Some row → IsAnswerTo row.0 (reading incoming.raw)) → IsOpen last rows e
      → Gives last rows (finished number incoming place done found e)
  finished_gives number incoming place done None e there fits old = breaks number Token e old
  finished_gives number incoming place done (Some row) e there fits old =
      let at = at_place e.pending place row there in
      let whole : rows ≡ at.front ++ row ∷ at.back = sym old.pending ∙ at.whole in
      let same : row.0 ≡ row.1 = same_at 0 last at.front at.back row (subst (λ rs. Rises 0 rs last) whole rises) in
      let rest : List (ℕ × ℕ) = at.front ++ at.back in
      let without : EndValue ℕ = record e { pending = remove e.pending place } in
      let kept : IsOpen last rest without = record { pending = at.left; last_is = old.last_is; staying = old.staying; readable = old.readable } in
      let fitting : IsAnswerTo row.1 (reading incoming.raw) = subst (λ (n : ℕ). IsAnswerTo n (reading incoming.raw)) same (fits row refl) in (
        fitting,
        record {
          front = at.front;
          back = at.back;
          row = row;
          whole = whole;
          number_is = refl;
          left = answered_open last rest row.0 done (leveled without) (leveled_open last rest without kept);
        },
      )

  answer_gives : (number : ℕ) (incoming : Incoming) (token : List ℕ) (done : Bool) (place : Option ℕ) (e : EndValue ℕ)
      → ((wanted : ℕ) → token ≡ decimal wanted → IsAnswerTo wanted (reading incoming.raw)) → sent_place token e ≡ place → IsOpen last rows e
      → Gives last rows (taken_as number incoming (answer_judged done place) e)
  answer_gives number incoming token done None e fits sent old = breaks number Token e old
  answer_gives number incoming token done (Some place) e fits sent old =
      finished_gives number incoming place done (slice_get e.pending place) e refl (λ row found. fits row.0 (named token e place row sent found)) old

  message_gives : (number : ℕ) (incoming : Incoming) (m : Result MessageValue MessageFault) (e : EndValue ℕ) → reading incoming.raw ≡ m → IsMessage m → IsOpen last rows e
      → Gives last rows (taken_as number incoming (judged (said_of m) e) e)
  message_gives number incoming (Err fault) e is message old = absurd message
  message_gives number incoming (Ok (flow level)) e is message old = absurd message
  message_gives number incoming (Ok (command token service name body)) e is message old =
      early_by number incoming (is_early e.state asks) judges.Asks e old (rw is tt, leveled_open last rows e old)
  message_gives number incoming (Ok (final token body)) e is message old =
      early_by number incoming (is_early e.state (answers token (is_done body))) (answer_judged (is_done body) (sent_place token e)) e old
      (answer_gives number incoming token (is_done body) (sent_place token e) e (λ wanted own. rw is own) refl old)
  message_gives number incoming (Ok (progress token body)) e is message old =
      early_by number incoming (is_early e.state (goes_on token)) (progress_judged (sent_place token e)) e old
      (progress_gives number incoming token body (sent_place token e) e is refl old)
  message_gives number incoming (Ok (not_known token)) e is message old =
      early_by number incoming (is_early e.state (answers token false)) (answer_judged false (sent_place token e)) e old
      (answer_gives number incoming token false (sent_place token e) e (λ wanted own. rw is own) refl old)
  message_gives number incoming (Ok (event service name body)) e is message old =
      event_gives number incoming (is_hello service name) e (λ flag. rw is flag) (λ flag. rw is flag) old

  stop_gives : (stop : Option Cause) (e : EndValue ℕ) → IsOpen last rows e → Gives last rows (stop_taken stop e)
  stop_gives None e old = old
  stop_gives (Some cause) e old = closes cause e old

  from_gives : (inbox : List Arrived) (e : EndValue ℕ) → e.inbox ≡ inbox → IsOpen last rows e → Gives last rows (taken_from inbox e)
  from_gives [] e is old = stop_gives e.stop e old
  from_gives (arrived ∷ inbox) e is old =
      let all : AllByRecursion IsReadable (arrived ∷ inbox) = subst (AllByRecursion IsReadable) is old.readable in
      let left : IsOpen last rows (record e { inbox = inbox }) = record { pending = old.pending; last_is = old.last_is; staying = old.staying; readable = all.1 } in
      message_gives arrived.number arrived.incoming (reading arrived.incoming.raw) (record e { inbox = inbox }) refl all.0 left

  pub next_gives : (e : EndValue ℕ) → IsOpen last rows e → Outcome last rows (next_taken e).0 (next_taken e).1
  next_gives e old = from_gives e.inbox e refl old
