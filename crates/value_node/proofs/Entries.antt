-- The entries of an inbox are messages that were read, and none is flow control; and a Hello is taken as one.
use Rattle.std.proofs.Common.{◌≡◌, ℕ, ◌+◌, Bool, true, false, cond, List, [], ◌∷◌, ◌++◌, length, Option, Some, None, Result, Ok, Err, refl, sym, ◌∙◌, subst}
use Rattle.std.specs.Prelude.{if◌then◌else◌, remove, slice_get}
use Rattle.std.specs.List.{AllByRecursion}
use Rattle.channel_core.specs.Beginning.{new_end}
use Rattle.channel_core.specs.Closing.{closed_own, is_closed}
use Rattle.channel_core.specs.EndValue.{EndValue}
use Rattle.channel_core.specs.Holding.{is_free, let_out, released, sent_out}
use Rattle.channel_core.specs.Level.{is_due, level_of, leveled}
use Rattle.channel_core.specs.Receiving.{came_by, counted, delivered, entered, heard, is_over, item_came, stopped_by}
use Rattle.channel_core.specs.Runs.{Call as EndCall, Run, after_call, after_calls, begun, closing, commanding, delivering, draining, ending, putting_out, sending, taking, unless_refused}
use Rattle.channel_core.specs.Sending.{commanded, made, refusal_to}
use Rattle.channel_core.specs.Taking.{answer_judged, answered, finished, greeted, is_early, is_of, judged, judged_by, next_taken, number_at, progress_judged, progressed, redirected, sent_place, state_greeted, stop_taken, taken_as, taken_from}
use Rattle.channel_core.specs.Wire.{Said, answers, asks, goes_on, greets, said_in, tells}
use Rattle.channel_core.specs.declared.held.Arrived.{Arrived}
use Rattle.channel_core.specs.declared.held.Held.{Held}
use Rattle.channel_core.specs.declared.held.Incoming.{Incoming}
use Rattle.channel_core.specs.declared.sending.SendRefusal.{SendRefusal}
use Rattle.channel_core.specs.declared.states.Cause.{Cause}
use Rattle.channel_core.specs.declared.states.EndState.TheVariants.{Live}
use Rattle.channel_core.specs.Judged.{Judged}
use Rattle.channel_core.specs.Judged as judges
use Rattle.channel_core.specs.declared.taking.Taken.{Taken}
use Rattle.channel_core.specs.declared.taking.Taken.TheVariants as taken
use Rattle.stream_escape.specs.Fed.{fed}
use Rattle.stream_escape.specs.declared.stream.Item.{Item}
use Rattle.stream_escape.specs.declared.stream.Item.TheVariants as items
use Rattle.stream_escape.specs.declared.stream.StreamFault.{StreamFault}
use Rattle.tcf_message.specs.Message.{MessageValue, command, event, final, flow, not_known, progress, reading}
use Rattle.tcf_message.specs.declared.message.MessageFault.{MessageFault}
use Rattle.value_node.proofs.Taken.{IsEvent, IsTold}
use Rattle.list_laws.proofs.AllLists.{all_append}

abbrev pub IsRead : Result MessageValue MessageFault → Type 0
IsRead (Err fault) = ⊥
IsRead (Ok (flow level)) = ⊥
IsRead (Ok m) = Unit {0}

abbrev IsEntry : Arrived → Type 0
IsEntry arrived = IsRead (reading arrived.incoming.raw)

abbrev pub AreRead : {T : Type 0} → EndValue T → Type 0
AreRead e = AllByRecursion IsEntry e.inbox

pub event_read : (m : Result MessageValue MessageFault) → IsTold m → IsRead m → IsEvent m
event_read (Ok (event service name body)) told read = tt
event_read (Ok (flow level)) told read = absurd read
event_read (Err fault) told read = absurd read
event_read m told read = absurd told

-- ---- what leaves the inbox

module _ {T : Type 0} where
  either_way : (flag : Bool) (one other : EndValue T) (inbox : List Arrived) → one.inbox ≡ inbox → other.inbox ≡ inbox → (cond flag one other).inbox ≡ inbox
  either_way true one other inbox is same = is
  either_way false one other inbox is same = same

  out_inbox : (h : Held) (e : EndValue T) → (sent_out h e).inbox ≡ e.inbox
  out_inbox h e = either_way h.is_redirect _ _ e.inbox refl refl

  let_inbox : (held : List Held) (e : EndValue T) → (let_out held e).inbox ≡ e.inbox
  let_inbox [] e = refl
  let_inbox (h ∷ held) e =
      let rest : EndValue T = record e { held = held } in
      let next = sent_out h rest in
      either_way h.is_redirect next (let_out held next) e.inbox (out_inbox h rest) (let_inbox held next ∙ out_inbox h rest)

  released_inbox : (e : EndValue T) → (released e).inbox ≡ e.inbox
  released_inbox e = either_way (is_free e) (let_out e.held e) e e.inbox (let_inbox e.held e) refl

  leveled_inbox : (e : EndValue T) → (leveled e).inbox ≡ e.inbox
  leveled_inbox e = either_way (is_due e.is_loud (level_of (length e.inbox))) _ e e.inbox refl refl

  still_read : (e next : EndValue T) → next.inbox ≡ e.inbox → AreRead e → AreRead next
  still_read e next same all = subst (AllByRecursion IsEntry) (sym same) all

  -- ---- what comes

  entered_read : (raw : List ℕ) (mark : Option ℕ) (e : EndValue T) → IsRead (reading raw) → AreRead e → AreRead (entered raw mark e)
  entered_read raw mark e is all =
      let arrived : Arrived = record { number = e.came; incoming = record { raw = raw; mark = mark } } in
      subst (AllByRecursion IsEntry) (sym (leveled_inbox (record e { inbox = e.inbox ++ arrived ∷ [] }))) (all_append IsEntry e.inbox (arrived ∷ []) all (is, tt))

  heard_read : (raw : List ℕ) (mark : Option ℕ) (m : Result MessageValue MessageFault) (e : EndValue T) → reading raw ≡ m → AreRead e → AreRead (heard raw mark m e)
  heard_read raw mark (Err fault) e is all = all
  heard_read raw mark (Ok (flow level)) e is all = still_read e (released (record e { told = level })) (released_inbox (record e { told = level })) all
  heard_read raw mark (Ok (command token service name body)) e is all = entered_read raw mark e (rw is tt) all
  heard_read raw mark (Ok (final token body)) e is all = entered_read raw mark e (rw is tt) all
  heard_read raw mark (Ok (progress token body)) e is all = entered_read raw mark e (rw is tt) all
  heard_read raw mark (Ok (not_known token)) e is all = entered_read raw mark e (rw is tt) all
  heard_read raw mark (Ok (event service name body)) e is all = entered_read raw mark e (rw is tt) all

  item_read : (mark : Option ℕ) (item : Item) (e : EndValue T) → AreRead e → AreRead (item_came mark item e)
  item_read mark (items.Message raw) e all = heard_read raw mark (reading raw) (record e { came = counted e.came }) refl all
  item_read mark items.End e all = all

  either_read : (flag : Bool) (one other : EndValue T) → AreRead one → AreRead other → AreRead (cond flag one other)
  either_read true one other is same = is
  either_read false one other is same = same

  came_read : (mark : Option ℕ) (list : List Item) (e : EndValue T) → AreRead e → AreRead (came_by mark list e)
  came_read mark [] e all = all
  came_read mark (item ∷ list) e all = came_read mark list (cond (is_over e) e (item_came mark item e)) (either_read (is_over e) e (item_came mark item e) all (item_read mark item e all))

  stopped_read : (answer : Result Unit StreamFault) (e : EndValue T) → AreRead e → AreRead (stopped_by answer e)
  stopped_read (Ok done) e all = all
  stopped_read (Err fault) e all = either_read (is_over e) e _ all all

  delivered_read : (piece : List ℕ) (mark : Option ℕ) (e : EndValue T) → AreRead e → AreRead (delivered piece mark e)
  delivered_read piece mark e all =
      let given = fed piece e.stream in
      let before : EndValue T = record e { stream = given.reader } in
      stopped_read given.answer (came_by mark given.items before) (came_read mark given.items before all)

  -- ---- what is taken

  redirected_inbox : (done : Bool) (e : EndValue T) → (redirected done e).inbox ≡ e.inbox
  redirected_inbox true e = refl
  redirected_inbox false e = released_inbox (record e { redirect = None; state = Live })

  answered_inbox : (token : ℕ) (done : Bool) (e : EndValue T) → (answered token done e).inbox ≡ e.inbox
  answered_inbox token done e = either_way (is_of token e.redirect) (redirected done e) e e.inbox (redirected_inbox done e) refl

  progressed_read : (number : ℕ) (incoming : Incoming) (token : Option ℕ) (e : EndValue T) → AreRead e → AreRead (progressed number incoming token e).1
  progressed_read number incoming None e all = tt
  progressed_read number incoming (Some token) e all = still_read e (leveled e) (leveled_inbox e) all

  finished_read : (number : ℕ) (incoming : Incoming) (place : ℕ) (done : Bool) (row : Option (ℕ × T)) (e : EndValue T) → AreRead e → AreRead (finished number incoming place done row e).1
  finished_read number incoming place done None e all = tt
  finished_read number incoming place done (Some row) e all =
      let rest : EndValue T = record e { pending = remove e.pending place } in
      still_read e (answered row.0 done (leveled rest)) (answered_inbox row.0 done (leveled rest) ∙ leveled_inbox rest) all

  judged_read : (number : ℕ) (incoming : Incoming) (what : Judged) (e : EndValue T) → AreRead e → AreRead (taken_as number incoming what e).1
  judged_read number incoming judges.TooEarly e all = tt
  judged_read number incoming judges.Stray e all = tt
  judged_read number incoming judges.Greets e all =
      let next : EndValue T = leveled e in
      still_read e (greeted next) (released_inbox (record next { state = state_greeted next.state next.redirect }) ∙ leveled_inbox e) all
  judged_read number incoming judges.Tells e all = still_read e (leveled e) (leveled_inbox e) all
  judged_read number incoming judges.Asks e all = still_read e (leveled e) (leveled_inbox e) all
  judged_read number incoming (judges.GoesOn place) e all = progressed_read number incoming (number_at place e.pending) e all
  judged_read number incoming (judges.Answers place done) e all = finished_read number incoming place done (slice_get e.pending place) e all

  stop_read : (stop : Option Cause) (e : EndValue T) → AreRead e → AreRead (stop_taken stop e).1
  stop_read None e all = all
  stop_read (Some cause) e all = tt

  from_read : (inbox : List Arrived) (e : EndValue T) → e.inbox ≡ inbox → AreRead e → AreRead (taken_from inbox e).1
  from_read [] e is all = stop_read e.stop e all
  from_read (arrived ∷ inbox) e is all =
      let rest : EndValue T = record e { inbox = inbox } in
      let both : AllByRecursion IsEntry (arrived ∷ inbox) = subst (AllByRecursion IsEntry) is all in
      judged_read arrived.number arrived.incoming (judged (said_in arrived.incoming.raw) rest) rest both.1

  -- ---- every call

  own_read : (e : EndValue T) → AreRead e → AreRead (closed_own e)
  own_read e all = either_read (is_closed e.state) e _ all tt

  commanded_read : (refusal : Option SendRefusal) (service name body : List ℕ) (tag : T) (mark : Option ℕ) (e : EndValue T) → AreRead e
      → AreRead (unless_refused refusal e (commanded service name body tag mark e))
  commanded_read (Some why) service name body tag mark e all = all
  commanded_read None service name body tag mark e all =
      let h : Held = made (e.last + 1) service name body mark in
      subst (AllByRecursion IsEntry) (sym (either_way (is_free e) (sent_out h e) (record e { held = e.held ++ h ∷ [] }) e.inbox (out_inbox h e) refl)) all

  call_read : (call : EndCall T) (r : Run T) → AreRead r.end → AreRead (after_call call r).end
  call_read (delivering piece mark) r all = delivered_read piece mark r.end all
  call_read ending r all = either_read (is_over r.end) r.end _ all all
  call_read taking r all = from_read r.end.inbox r.end refl all
  call_read (commanding service name body tag mark) r all = commanded_read (refusal_to service name body r.end) service name body tag mark r.end all
  call_read (sending message mark) r all = either_read (is_closed r.end.state) r.end _ all all
  call_read putting_out r all = all
  call_read closing r all = own_read r.end all
  call_read draining r all = either_read (is_closed r.end.state) _ r.end all all

  calls_read : (calls : List (EndCall T)) (r : Run T) → AreRead r.end → AreRead (after_calls calls r).end
  calls_read [] r all = all
  calls_read (call ∷ calls) r all = calls_read calls (after_call call r) (call_read call r all)

-- after any calls of a new end
pub always_read : {T : Type 0} → (hello : List ℕ) (mark : Option ℕ) (calls : List (EndCall T)) → AreRead (after_calls calls (begun (new_end hello mark))).end
always_read hello mark calls = calls_read calls (begun (new_end hello mark)) tt

-- ---- how the next entry is taken

abbrev pub IsTakenSo : {T : Type 0} → Option (Taken T) → Type 0
IsTakenSo None = Unit {0}
IsTakenSo (Some (taken.Hello incoming)) = said_in incoming.raw ≡ greets
IsTakenSo (Some (taken.Event incoming)) = (said_in incoming.raw ≡ tells) × IsRead (reading incoming.raw)
IsTakenSo (Some what) = Unit {0}

early_so : {T : Type 0} → (number : ℕ) (incoming : Incoming) (flag : Bool) (what : Judged) (e : EndValue T) → IsTakenSo (taken_as number incoming what e).0
    → IsTakenSo (taken_as number incoming (if flag then judges.TooEarly else what) e).0
early_so number incoming true what e so = tt
early_so number incoming false what e so = so

progressed_so : {T : Type 0} → (number : ℕ) (incoming : Incoming) (found : Option ℕ) (e : EndValue T) → IsTakenSo (progressed number incoming found e).0
progressed_so number incoming None e = tt
progressed_so number incoming (Some token) e = tt

finished_so : {T : Type 0} → (number : ℕ) (incoming : Incoming) (place : ℕ) (done : Bool) (row : Option (ℕ × T)) (e : EndValue T) → IsTakenSo (finished number incoming place done row e).0
finished_so number incoming place done None e = tt
finished_so number incoming place done (Some row) e = tt

progress_so : {T : Type 0} → (number : ℕ) (incoming : Incoming) (place : Option ℕ) (e : EndValue T) → IsTakenSo (taken_as number incoming (progress_judged place) e).0
progress_so number incoming None e = tt
progress_so number incoming (Some place) e = progressed_so number incoming (number_at place e.pending) e

answer_so : {T : Type 0} → (number : ℕ) (incoming : Incoming) (done : Bool) (place : Option ℕ) (e : EndValue T) → IsTakenSo (taken_as number incoming (answer_judged done place) e).0
answer_so number incoming done None e = tt
answer_so number incoming done (Some place) e = finished_so number incoming place done (slice_get e.pending place) e

said_so : {T : Type 0} → (number : ℕ) (incoming : Incoming) (said : Said) (e : EndValue T) → said_in incoming.raw ≡ said → IsRead (reading incoming.raw)
    → IsTakenSo (taken_as number incoming (judged_by said e) e).0
said_so number incoming greets e is read = is
said_so number incoming tells e is read = (is, read)
said_so number incoming asks e is read = tt
said_so number incoming (goes_on token) e is read = progress_so number incoming (sent_place token e) e
said_so number incoming (answers token done) e is read = answer_so number incoming done (sent_place token e) e

stop_so : {T : Type 0} → (stop : Option Cause) (e : EndValue T) → IsTakenSo (stop_taken stop e).0
stop_so None e = tt
stop_so (Some cause) e = tt

from_so : {T : Type 0} → (inbox : List Arrived) (e : EndValue T) → AllByRecursion IsEntry inbox → IsTakenSo (taken_from inbox e).0
from_so [] e all = stop_so e.stop e
from_so (arrived ∷ inbox) e all =
    let rest = record e { inbox = inbox } in
    let said = said_in arrived.incoming.raw in
    early_so arrived.number arrived.incoming (is_early e.state said) (judged_by said rest) rest (said_so arrived.number arrived.incoming said rest refl all.0)

pub next_so : {T : Type 0} → (e : EndValue T) → AreRead e → IsTakenSo (next_taken e).0
next_so e all = from_so e.inbox e all
