-- What bytes that come, and what is taken, make of the pending commands of an end, and of the barriers among them.
use Rattle.std.proofs.Common.{◌≡◌, ℕ, ◌+◌, ◌<◌, Bool, true, false, cond, not, nat_eq, ◌||◌, List, [], ◌∷◌, ◌++◌, length, Option, Some, None, Result, Ok, Err, refl, sym, ap, ap₂, ◌∙◌, subst, arith, get_or}
use Rattle.std.specs.Prelude.{if◌then◌else◌, remove, slice_get}
use Rattle.std.proofs.lemmas.Bool.Decides.{nat_tests}
use Rattle.std.proofs.lemmas.List.Sums.{sum_by-cons, sum_by-remove}
use Rattle.std.proofs.lemmas.Option.{slice_get-get_or, slice_get_within}
use Rattle.channel_core.specs.Closing.{closed_for}
use Rattle.channel_core.specs.EndValue.{EndValue}
use Rattle.channel_core.specs.Holding.{is_free, let_out, released, sent_out}
use Rattle.channel_core.specs.Level.{is_due, level_of, leveled}
use Rattle.channel_core.specs.Receiving.{came_by, delivered, entered, heard, is_over, item_came, stopped_by}
use Rattle.channel_core.specs.Taking.{answer_judged, answered, broken, finished, greeted, is_early, is_of, judged_by, message_taken, next_taken, progress_judged, progressed, redirected, sent_place, state_greeted, stop_taken, taken_as, taken_from}
use Rattle.channel_core.specs.Wire.{Said, answers, asks, goes_on, greets, said_in, tells}
use Rattle.channel_core.specs.declared.held.Arrived.{Arrived}
use Rattle.channel_core.specs.declared.held.Held.{Held}
use Rattle.channel_core.specs.declared.held.Incoming.{Incoming}
use Rattle.channel_core.specs.declared.states.Cause.{Cause}
use Rattle.channel_core.specs.declared.states.EndState.TheVariants.{Live}
use Rattle.channel_core.specs.declared.states.Reason.{Reason}
use Rattle.channel_core.specs.declared.states.Reason.TheVariants as reasons
use Rattle.channel_core.specs.Judged.{Judged}
use Rattle.channel_core.specs.Judged as judges
use Rattle.channel_core.specs.declared.taking.Taken.{Taken}
use Rattle.channel_core.specs.declared.taking.Taken.TheVariants as taken
use Rattle.stream_escape.specs.Fed.{fed}
use Rattle.stream_escape.specs.declared.stream.Item.{Item}
use Rattle.stream_escape.specs.declared.stream.Item.TheVariants as items
use Rattle.stream_escape.specs.declared.stream.StreamFault.{StreamFault}
use Rattle.tcf_message.specs.Message.{MessageValue, command, event, final, flow, not_known, progress, reading}
use Rattle.tcf_message.specs.declared.message.MessageFault.{MessageFault}
use Rattle.value_node.specs.Barriers.{barriers_in, bars, is_barred, is_barrier, is_barrier_done}
use Rattle.value_node.specs.ForwardedValue.{ForwardedValue}

-- ---- bytes that come leave them

module _ {T : Type 0} where
  either : (flag : Bool) (one other : EndValue T) (rows : List (ℕ × T)) → one.pending ≡ rows → other.pending ≡ rows → (if flag then one else other).pending ≡ rows
  either true one other rows is else_is = is
  either false one other rows is else_is = else_is

  out_pending : (h : Held) (e : EndValue T) → (sent_out h e).pending ≡ e.pending
  out_pending h e = either h.is_redirect _ _ e.pending refl refl

  let_pending : (held : List Held) (e : EndValue T) → (let_out held e).pending ≡ e.pending
  let_pending [] e = refl
  let_pending (h ∷ held) e =
      let rest : EndValue T = record e { held = held } in
      let next = sent_out h rest in
      either h.is_redirect next (let_out held next) e.pending (out_pending h rest) (let_pending held next ∙ out_pending h rest)

  released_pending : (e : EndValue T) → (released e).pending ≡ e.pending
  released_pending e = either (is_free e) (let_out e.held e) e e.pending (let_pending e.held e) refl

  leveled_pending : (e : EndValue T) → (leveled e).pending ≡ e.pending
  leveled_pending e = either (is_due e.is_loud (level_of (length e.inbox))) _ e e.pending refl refl

  entered_pending : (raw : List ℕ) (mark : Option ℕ) (e : EndValue T) → (entered raw mark e).pending ≡ e.pending
  entered_pending raw mark e = leveled_pending (record e { inbox = e.inbox ++ record { number = e.came; incoming = record { raw = raw; mark = mark } } ∷ [] })

  heard_pending : (raw : List ℕ) (mark : Option ℕ) (m : Result MessageValue MessageFault) (e : EndValue T) → (heard raw mark m e).pending ≡ e.pending
  heard_pending raw mark (Err fault) e = refl
  heard_pending raw mark (Ok (flow level)) e = released_pending (record e { told = level })
  heard_pending raw mark (Ok (command token service name body)) e = entered_pending raw mark e
  heard_pending raw mark (Ok (final token body)) e = entered_pending raw mark e
  heard_pending raw mark (Ok (progress token body)) e = entered_pending raw mark e
  heard_pending raw mark (Ok (not_known token)) e = entered_pending raw mark e
  heard_pending raw mark (Ok (event service name body)) e = entered_pending raw mark e

  item_pending : (mark : Option ℕ) (item : Item) (e : EndValue T) → (item_came mark item e).pending ≡ e.pending
  item_pending mark (items.Message raw) e = heard_pending raw mark (reading raw) _
  item_pending mark items.End e = refl

  came_pending : (mark : Option ℕ) (list : List Item) (e : EndValue T) → (came_by mark list e).pending ≡ e.pending
  came_pending mark [] e = refl
  came_pending mark (item ∷ list) e =
      came_pending mark list (if is_over e then e else item_came mark item e) ∙ either (is_over e) e (item_came mark item e) e.pending refl (item_pending mark item e)

  stopped_pending : (answer : Result Unit StreamFault) (e : EndValue T) → (stopped_by answer e).pending ≡ e.pending
  stopped_pending (Ok done) e = refl
  stopped_pending (Err fault) e = either (is_over e) e _ e.pending refl refl

  pub delivered_pending : (piece : List ℕ) (mark : Option ℕ) (e : EndValue T) → (delivered piece mark e).pending ≡ e.pending
  delivered_pending piece mark e =
      let given = fed piece e.stream in
      let before : EndValue T = record e { stream = given.reader } in
      stopped_pending given.answer (came_by mark given.items before) ∙ came_pending mark given.items before

  redirected_pending : (done : Bool) (e : EndValue T) → (redirected done e).pending ≡ e.pending
  redirected_pending true e = refl
  redirected_pending false e = released_pending (record e { redirect = None; state = Live })

  answered_pending : (token : ℕ) (done : Bool) (e : EndValue T) → (answered token done e).pending ≡ e.pending
  answered_pending token done e = either (is_of token e.redirect) (redirected done e) e e.pending (redirected_pending done e) refl

  greeted_pending : (e : EndValue T) → (greeted e).pending ≡ e.pending
  greeted_pending e = released_pending (record e { state = state_greeted e.state e.redirect })

-- ---- the barriers

abbrev count_one : ℕ × ForwardedValue → ℕ
count_one row = cond (bars row) 1 0

-- bytes that come leave them
pub delivered_counts : (piece : List ℕ) (mark : Option ℕ) (e : EndValue ForwardedValue) → barriers_in (delivered piece mark e).pending ≡ barriers_in e.pending
delivered_counts piece mark e = ap barriers_in (delivered_pending piece mark e)

-- ---- what is taken

abbrev done_by : Option (Taken ForwardedValue) → ℕ
done_by what = cond (is_barrier_done what) 1 0

abbrev Counts : ℕ → Option (Taken ForwardedValue) × EndValue ForwardedValue → Type 0
Counts count p = barriers_in p.1.pending + done_by p.0 ≡ count

stays : (count : ℕ) (what : Option (Taken ForwardedValue)) (e : EndValue ForwardedValue) (rows : List (ℕ × ForwardedValue)) → done_by what ≡ 0 → e.pending ≡ rows → barriers_in rows ≡ count
    → Counts count (what, e)
stays count what e rows none same is = ap₂ (λ n m. n + m) (ap barriers_in same ∙ is) none ∙ omega arith

breaks : (count number : ℕ) (reason : Reason) (e : EndValue ForwardedValue) → barriers_in e.pending ≡ count → Counts count (broken number reason e)
breaks count number reason e is =
    let stopped = broken number reason e in stays count stopped.0 stopped.1 e.pending refl refl is

early : (count number : ℕ) (incoming : Incoming) (flag : Bool) (what : Judged) (e : EndValue ForwardedValue) → barriers_in e.pending ≡ count
    → Counts count (taken_as number incoming what e) → Counts count (taken_as number incoming (if flag then judges.TooEarly else what) e)
early count number incoming true what e is counts = breaks count number reasons.Early e is
early count number incoming false what e is counts = counts

goes : (count number : ℕ) (incoming : Incoming) (found : Option ℕ) (e : EndValue ForwardedValue) → barriers_in e.pending ≡ count → Counts count (progressed number incoming found e)
goes count number incoming None e is = breaks count number reasons.Token e is
goes count number incoming (Some token) e is = stays count (Some (taken.Progress token incoming)) (leveled e) e.pending refl (leveled_pending e) is

ends : (count number : ℕ) (incoming : Incoming) (place : ℕ) (done : Bool) (found : Option (ℕ × ForwardedValue)) (e : EndValue ForwardedValue) → slice_get e.pending place ≡ found
    → barriers_in e.pending ≡ count → Counts count (finished number incoming place done found e)
ends count number incoming place done None e there is = breaks count number reasons.Token e is
ends count number incoming place done (Some row) e there is =
    let inside : place < length e.pending = slice_get_within e.pending place row there in
    let rest : EndValue ForwardedValue = record e { pending = remove e.pending place } in
    let left : (answered row.0 done (leveled rest)).pending ≡ remove e.pending place = answered_pending row.0 done (leveled rest) ∙ leveled_pending rest in
    let at : get_or e.pending place row ≡ row = some_is (get_or e.pending place row) row (sym (slice_get-get_or e.pending place row inside) ∙ there) in
    ap (λ rows. barriers_in rows + cond (is_barrier row.1.command) 1 0) left
    ∙ ap (λ r. barriers_in (remove e.pending place) + count_one r) (sym at)
    ∙ sum_by-remove count_one e.pending place row inside ∙ is
  where
    some_is : (one other : ℕ × ForwardedValue) → ◌≡◌ {A = Option (ℕ × ForwardedValue)} (Some one) (Some other) → one ≡ other
    some_is one other same = cc

goes_judged : (count number : ℕ) (incoming : Incoming) (place : Option ℕ) (e : EndValue ForwardedValue) → barriers_in e.pending ≡ count
    → Counts count (taken_as number incoming (progress_judged place) e)
goes_judged count number incoming None e is = breaks count number reasons.Token e is
goes_judged count number incoming (Some place) e is = goes count number incoming _ e is

ends_judged : (count number : ℕ) (incoming : Incoming) (done : Bool) (place : Option ℕ) (e : EndValue ForwardedValue) → barriers_in e.pending ≡ count
    → Counts count (taken_as number incoming (answer_judged done place) e)
ends_judged count number incoming done None e is = breaks count number reasons.Token e is
ends_judged count number incoming done (Some place) e is = ends count number incoming place done (slice_get e.pending place) e refl is

by_said : (count number : ℕ) (incoming : Incoming) (said : Said) (e : EndValue ForwardedValue) → barriers_in e.pending ≡ count
    → Counts count (taken_as number incoming (judged_by said e) e)
by_said count number incoming greets e is = stays count (Some (taken.Hello incoming)) (greeted (leveled e)) e.pending refl (greeted_pending (leveled e) ∙ leveled_pending e) is
by_said count number incoming tells e is = stays count (Some (taken.Event incoming)) (leveled e) e.pending refl (leveled_pending e) is
by_said count number incoming asks e is = stays count (Some (taken.Command incoming)) (leveled e) e.pending refl (leveled_pending e) is
by_said count number incoming (goes_on token) e is = goes_judged count number incoming (sent_place token e) e is
by_said count number incoming (answers token done) e is = ends_judged count number incoming done (sent_place token e) e is

message_counts : (count number : ℕ) (incoming : Incoming) (said : Said) (e : EndValue ForwardedValue) → barriers_in e.pending ≡ count
    → Counts count (message_taken number incoming said e)
message_counts count number incoming said e is = early count number incoming (is_early e.state said) (judged_by said e) e is (by_said count number incoming said e is)

stop_counts : (count : ℕ) (stop : Option Cause) (e : EndValue ForwardedValue) → barriers_in e.pending ≡ count → Counts count (stop_taken stop e)
stop_counts count None e is = stays count None e e.pending refl refl is
stop_counts count (Some cause) e is = stays count (Some (taken.Closed cause)) (closed_for cause e) e.pending refl refl is

from_counts : (count : ℕ) (inbox : List Arrived) (e : EndValue ForwardedValue) → barriers_in e.pending ≡ count → Counts count (taken_from inbox e)
from_counts count [] e is = stop_counts count e.stop e is
from_counts count (arrived ∷ inbox) e is = message_counts count arrived.number arrived.incoming (said_in arrived.incoming.raw) (record e { inbox = inbox }) is

-- the barriers that are left, and the one that was answered, are those before
pub taken_counts : (e : EndValue ForwardedValue) → barriers_in (next_taken e).1.pending + done_by (next_taken e).0 ≡ barriers_in e.pending
taken_counts e = from_counts (barriers_in e.pending) e.inbox e refl

-- ---- whether there is one

more_than_none : (n : ℕ) → nat_eq (1 + n) 0 ≡ false
more_than_none n = grind (arith, nat_tests)

either_bars : (flag : Bool) (count : ℕ) (any : Bool) → not (nat_eq count 0) ≡ any → not (nat_eq (cond flag 1 0 + count) 0) ≡ (flag || any)
either_bars true count any is = ap not (more_than_none count)
either_bars false count any is = ap (λ n. not (nat_eq n 0)) (omega arith) ∙ is

pub is_barred_by : (rows : List (ℕ × ForwardedValue)) → not (nat_eq (barriers_in rows) 0) ≡ is_barred rows
is_barred_by [] = refl
is_barred_by (row ∷ rows) = ap (λ n. not (nat_eq n 0)) (sum_by-cons count_one row rows) ∙ either_bars (bars row) (barriers_in rows) (is_barred rows) (is_barred_by rows)

-- ---- the count that an upper end keeps, unless memory was wanting

abbrev pub IsCounted : ℕ → EndValue ForwardedValue → Type 0
IsCounted count e = e.is_spent ≡ false → count ≡ barriers_in e.pending

-- an entry is taken
pub taken_keeps : (count : ℕ) (what : Option (Taken ForwardedValue)) (old new : EndValue ForwardedValue) → (what, new) ≡ next_taken old → old.is_spent ≡ false → IsCounted count old
    → barriers_in new.pending + done_by what ≡ count
taken_keeps count what old new taken fresh counted =
    ap (λ (p : Option (Taken ForwardedValue) × EndValue ForwardedValue). barriers_in p.1.pending + done_by p.0) taken ∙ taken_counts old ∙ sym (counted fresh)

-- whether a barrier is pending
pub counted_is_barred : (count : ℕ) (inside e : EndValue ForwardedValue) → inside ≡ e → e.is_spent ≡ false → IsCounted count inside → not (nat_eq count 0) ≡ is_barred e.pending
counted_is_barred count inside e same fresh counted =
    ap (λ n. not (nat_eq n 0)) (subst (IsCounted count) same counted fresh) ∙ is_barred_by e.pending
