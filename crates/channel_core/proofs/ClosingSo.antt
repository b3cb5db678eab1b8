-- An end closes with a last entry that is taken, or by its own side, and by nothing else.
use Rattle.std.proofs.Common.{◌≡◌, ℕ, Bool, true, false, cond, List, [], ◌∷◌, ◌++◌, ◌+◌, Option, Some, None, Result, Ok, Err, refl, ap, ◌∙◌}
use Rattle.std.specs.Prelude.{remove, slice_get}
use Rattle.stream_escape.specs.Fed.{fed}
use Rattle.stream_escape.specs.declared.stream.Item.{Item}
use Rattle.stream_escape.specs.declared.stream.Item.TheVariants as items
use Rattle.stream_escape.specs.declared.stream.StreamFault.{StreamFault}
use Rattle.tcf_message.specs.Message.{MessageValue, command, final, progress, not_known, event, flow, reading}
use Rattle.tcf_message.specs.declared.message.MessageFault.{MessageFault}
use Rattle.channel_core.specs.Closing.{closed_for, is_closed}
use Rattle.channel_core.specs.EndValue.{EndValue}
use Rattle.channel_core.specs.Holding.{released}
use Rattle.channel_core.specs.Level.{leveled}
use Rattle.channel_core.specs.QueueLaws.{ClosesOnlySo, TakesNothingClosed, may_close}
use Rattle.channel_core.specs.Receiving.{came_by, counted, delivered, entered, heard, is_over, item_came, stopped_by, with_last}
use Rattle.channel_core.specs.RunLaws.{AfterAllCalls}
use Rattle.channel_core.specs.Runs.{Call, delivering, ending, taking, commanding, sending, putting_out, closing, draining, called, unless_refused, begun, after_calls}
use Rattle.channel_core.specs.Beginning.{new_end}
use Rattle.channel_core.specs.Sending.{commanded, made, refusal_to}
use Rattle.channel_core.specs.Taking.{answered, closes, finished, is_of, judged, next_taken, number_at, progressed, redirected, state_greeted, stop_taken, taken_as, taken_from}
use Rattle.channel_core.specs.Wire.{said_in}
use Rattle.channel_core.specs.declared.held.Arrived.{Arrived}
use Rattle.channel_core.specs.declared.held.Incoming.{Incoming}
use Rattle.channel_core.specs.declared.sending.SendRefusal.{SendRefusal}
use Rattle.channel_core.specs.declared.states.Cause.{Cause}
use Rattle.channel_core.specs.declared.states.Cause.TheVariants.{Ended, Own, Stream}
use Rattle.channel_core.specs.declared.states.EndState.TheVariants.{Live}
use Rattle.channel_core.specs.Judged.{Judged, TooEarly, Stray, Greets, Tells, Asks, GoesOn, Answers}
use Rattle.channel_core.specs.declared.taking.Taken.{Taken}
use Rattle.channel_core.proofs.Keeping.{KeepsOut, closed_by, greeted_open, released_keeps, sent_open}
use Rattle.channel_core.proofs.Tidy.{leveled_open, sent_or_held_open}
use Rattle.channel_core.proofs.Running.{all_stay_closed, always}

-- ---- A closed end takes nothing

takes_none : {T : Type 0} → (e : EndValue T) → e.inbox ≡ [] → e.stop ≡ None → next_taken e ≡ (None, e)
takes_none e inbox stop = ap (λ xs. taken_from xs e) inbox ∙ ap (λ s. stop_taken s e) stop

pub all_takes_nothing : {T : Type 0} → AfterAllCalls {T = T} TakesNothingClosed
all_takes_nothing {T = T} hello mark calls closed =
    let s = always {T = T} hello mark calls in
    takes_none (after_calls calls (begun (new_end {T = T} hello mark))).end (s.tidy.emptied closed) (s.tidy.stopped closed)

-- ---- An open end closes with what is taken

abbrev pub IsOpen : {T : Type 0} → EndValue T → Type 0
IsOpen e = is_closed e.state ≡ false

pub open_out : {T : Type 0} → KeepsOut {T = T} IsOpen
open_out e h held is opened i = sent_open h (record e { held = held }) opened

pub released_open : {T : Type 0} → (e : EndValue T) → IsOpen e → IsOpen (released e)
released_open e opened = released_keeps open_out e opened opened

pub redirected_open : {T : Type 0} → (e : EndValue T) (done : Bool) → IsOpen e → IsOpen (redirected done e)
redirected_open e true opened = opened
redirected_open e false opened = released_open (record e { redirect = None; state = Live }) refl

pub answered_open : {T : Type 0} → (token : ℕ) (done : Bool) (e : EndValue T) → IsOpen e → IsOpen (answered token done e)
answered_open token done e opened = closed_by (is_of token e.redirect) _ e e (redirected_open e done opened) opened

abbrev pub ClosesWith : {T : Type 0} → Option (Taken T) × EndValue T → Type 0
ClosesWith p = is_closed p.1.state ≡ closes p.0

pub progress_so : {T : Type 0} → (number : ℕ) (incoming : Incoming) (token : Option ℕ) (e : EndValue T) → IsOpen e → ClosesWith (progressed number incoming token e)
progress_so number incoming None e opened = refl
progress_so number incoming (Some token) e opened = leveled_open e opened

pub final_so : {T : Type 0} → (number : ℕ) (incoming : Incoming) (place : ℕ) (done : Bool) (row : Option (ℕ × T)) (e : EndValue T) → IsOpen e → ClosesWith (finished number incoming place done row e)
final_so number incoming place done None e opened = refl
final_so number incoming place done (Some row) e opened =
    let left = record e { pending = remove e.pending place } in answered_open row.0 done (leveled left) (leveled_open left opened)

pub as_so : {T : Type 0} → (number : ℕ) (incoming : Incoming) (what : Judged) (e : EndValue T) → IsOpen e → ClosesWith (taken_as number incoming what e)
as_so number incoming TooEarly e opened = refl
as_so number incoming Stray e opened = refl
as_so number incoming Greets e opened =
    let told = leveled e in
    let still = leveled_open e opened in
    released_open (record told { state = state_greeted told.state told.redirect }) (greeted_open told.state told.redirect still)
as_so number incoming Tells e opened = leveled_open e opened
as_so number incoming Asks e opened = leveled_open e opened
as_so number incoming (GoesOn place) e opened = progress_so number incoming (number_at place e.pending) e opened
as_so number incoming (Answers place done) e opened = final_so number incoming place done (slice_get e.pending place) e opened

pub stop_so : {T : Type 0} → (stop : Option Cause) (e : EndValue T) → IsOpen e → ClosesWith (stop_taken stop e)
stop_so None e opened = opened
stop_so (Some cause) e opened = refl

pub from_so : {T : Type 0} → (inbox : List Arrived) (e : EndValue T) → IsOpen e → ClosesWith (taken_from inbox e)
from_so [] e opened = stop_so e.stop e opened
from_so (arrived ∷ inbox) e opened =
    let left = record e { inbox = inbox } in as_so arrived.number arrived.incoming (judged (said_in arrived.incoming.raw) left) left opened

-- ---- Nothing else closes an open end

pub entered_open : {T : Type 0} → (raw : List ℕ) (mark : Option ℕ) (e : EndValue T) → IsOpen e → IsOpen (entered raw mark e)
entered_open raw mark e opened = leveled_open (record e { inbox = e.inbox ++ record { number = e.came; incoming = record { raw = raw; mark = mark } } ∷ [] }) opened

pub heard_open : {T : Type 0} → (raw : List ℕ) (mark : Option ℕ) (message : Result MessageValue MessageFault) (e : EndValue T) → IsOpen e → IsOpen (heard raw mark message e)
heard_open raw mark (Err fault) e opened = opened
heard_open raw mark (Ok (flow level)) e opened = released_open (record e { told = level }) opened
heard_open raw mark (Ok (command token service name body)) e opened = entered_open raw mark e opened
heard_open raw mark (Ok (final token body)) e opened = entered_open raw mark e opened
heard_open raw mark (Ok (progress token body)) e opened = entered_open raw mark e opened
heard_open raw mark (Ok (not_known token)) e opened = entered_open raw mark e opened
heard_open raw mark (Ok (event service name body)) e opened = entered_open raw mark e opened

pub item_open : {T : Type 0} → (mark : Option ℕ) (item : Item) (e : EndValue T) → IsOpen e → IsOpen (item_came mark item e)
item_open mark (items.Message raw) e opened = heard_open raw mark (reading raw) (record e { came = counted e.came }) opened
item_open mark items.End e opened = opened

pub came_open : {T : Type 0} → (mark : Option ℕ) (list : List Item) (e : EndValue T) → IsOpen e → IsOpen (came_by mark list e)
came_open mark [] e opened = opened
came_open mark (item ∷ list) e opened =
    came_open mark list (cond (is_over e) e (item_came mark item e)) (closed_by (is_over e) e (item_came mark item e) e opened (item_open mark item e opened))

pub stopped_open : {T : Type 0} → (answer : Result Unit StreamFault) (e : EndValue T) → IsOpen e → IsOpen (stopped_by answer e)
stopped_open (Ok done) e opened = opened
stopped_open (Err fault) e opened = closed_by (is_over e) e (with_last (Stream fault) e) e opened opened

pub delivered_open : {T : Type 0} → (piece : List ℕ) (mark : Option ℕ) (e : EndValue T) → IsOpen e → IsOpen (delivered piece mark e)
delivered_open piece mark e opened =
    let given = fed piece e.stream in
    let next = record e { stream = given.reader } in
    stopped_open given.answer (came_by mark given.items next) (came_open mark given.items next opened)

commanded_open : {T : Type 0} → (refusal : Option SendRefusal) (service name body : List ℕ) (tag : T) (mark : Option ℕ) (e : EndValue T) → IsOpen e
    → IsOpen (unless_refused refusal e (commanded service name body tag mark e))
commanded_open (Some why) service name body tag mark e opened = opened
commanded_open None service name body tag mark e opened = sent_or_held_open (made (e.last + 1) service name body mark) e opened

others_open : {T : Type 0} → (call : Call T) (e : EndValue T) → may_close call ≡ false → IsOpen e → IsOpen (called call e)
others_open (delivering piece mark) e isnt opened = delivered_open piece mark e opened
others_open ending e isnt opened = closed_by (is_over e) e (with_last Ended e) e opened opened
others_open taking e isnt opened = absurd cc
others_open (commanding service name body tag mark) e isnt opened = commanded_open (refusal_to service name body e) service name body tag mark e opened
others_open (sending message mark) e isnt opened = closed_by (is_closed e.state) e _ e opened opened
others_open putting_out e isnt opened = opened
others_open closing e isnt opened = absurd cc
others_open draining e isnt opened = closed_by (is_closed e.state) _ e e opened opened

-- ---- The law

own_closes : {T : Type 0} → (flag : Bool) (e : EndValue T) → is_closed e.state ≡ flag → is_closed (cond flag e (closed_for Own e)).state ≡ true
own_closes true e is = is
own_closes false e is = refl

pub all_close_only_so : {T : Type 0} → AfterAllCalls {T = T} ClosesOnlySo
all_close_only_so {T = T} hello mark calls = record {
  by_taking = from_so e.inbox e;
  by_own = own_closes (is_closed e.state) e refl;
  by_others = λ call isnt. by_flag call isnt (is_closed e.state) refl;
}
  where
    e : EndValue T
    e = (after_calls calls (begun (new_end {T = T} hello mark))).end

    by_flag : (call : Call T) → may_close call ≡ false → (flag : Bool) → is_closed e.state ≡ flag → is_closed (called call e).state ≡ is_closed e.state
    by_flag call isnt true closed = ap is_closed (all_stay_closed {T = T} hello mark calls (call ∷ []) closed).state
    by_flag call isnt false opened = others_open call e isnt opened ∙ (let p : false ≡ is_closed e.state = cc in p)
