-- What each step of a client's end leaves: an open end stays open until it closes for its own side or for what it takes, and
-- a closed one stays closed for its cause.
use Rattle.std.proofs.Common.{◌≡◌, ◌≢◌, ℕ, ◌+◌, Bool, true, false, List, [], ◌∷◌, ◌++◌, length, Option, Some, None, Result, Ok, Err, refl, ap, sym, subst, ◌∙◌}
use Rattle.std.specs.Prelude.{if◌then◌else◌, is_some, remove, slice_get}
use Rattle.std.proofs.lemmas.Bool.{or_left}
use Rattle.stream_escape.specs.Fed.{fed}
use Rattle.stream_escape.specs.declared.stream.Item.{Item}
use Rattle.stream_escape.specs.declared.stream.Item.TheVariants as items
use Rattle.stream_escape.specs.declared.stream.StreamFault.{StreamFault}
use Rattle.tcf_message.specs.Message.{MessageValue, command, event, final, flow, not_known, progress, reading}
use Rattle.tcf_message.specs.declared.message.MessageFault.{MessageFault}
use Rattle.channel_core.specs.Closing.{is_closed}
use Rattle.channel_core.specs.EndValue.{EndValue}
use Rattle.channel_core.specs.Holding.{is_free, let_out, released, sent_out}
use Rattle.channel_core.specs.Level.{is_due, level_of, leveled}
use Rattle.channel_core.specs.Receiving.{came_by, counted, delivered, ended, entered, heard, is_over, item_came, stopped_by}
use Rattle.channel_core.specs.Sending.{commanded, made, queued, refusal_of}
use Rattle.channel_core.specs.Taking.{answered, broken, finished, greeted, is_of, judged, next_taken, number_at, progressed, redirected, state_greeted, stop_taken, taken_as, taken_from}
use Rattle.channel_core.specs.Wire.{said_in}
use Rattle.channel_core.specs.declared.held.Arrived.{Arrived}
use Rattle.channel_core.specs.declared.held.Held.{Held}
use Rattle.channel_core.specs.declared.held.Incoming.{Incoming}
use Rattle.channel_core.specs.declared.sending.SendRefusal.TheVariants.{NotOpen}
use Rattle.channel_core.specs.declared.states.Cause.{Cause}
use Rattle.channel_core.specs.declared.states.Cause.TheVariants as causes
use Rattle.channel_core.specs.declared.states.EndState.{EndState}
use Rattle.channel_core.specs.declared.states.EndState.TheVariants.{Closed, Live, Opening, Reopening}
use Rattle.channel_core.specs.declared.states.Reason.{Reason}
use Rattle.channel_core.specs.declared.states.Reason.TheVariants.{Token}
use Rattle.channel_core.specs.Judged.{Judged}
use Rattle.channel_core.specs.Judged as judges
use Rattle.channel_core.specs.declared.taking.Taken.{Taken}
use Rattle.channel_core.specs.declared.taking.Taken.TheVariants as taken
use Rattle.client_serving.specs.Serving.{emptied, queue_of}

-- a last entry, which doesn't close the end as its own side does
abbrev pub IsOther : Option Cause → Type 0
IsOther None = Unit {0}
IsOther (Some cause) = cause ≢ causes.Own

-- an end that isn't closed, with these pending commands
pub record IsOpen (rows : List (ℕ × ℕ)) (e : EndValue ℕ) : Type 0 where
  pub pending : e.pending ≡ rows
  pub staying : is_closed e.state ≡ false
  pub stop : IsOther e.stop

abbrev pub IsOpenEnd : EndValue ℕ → Type 0
IsOpenEnd e = IsOpen e.pending e

pub own_open : {rows : List (ℕ × ℕ)} → (e : EndValue ℕ) → IsOpen rows e → IsOpenEnd e
own_open e old = record { pending = refl; staying = old.staying; stop = old.stop }

-- a closed end that has nothing pending
pub record IsShut (cause : Cause) (e : EndValue ℕ) : Type 0 where
  pub closed : e.state ≡ Closed cause
  pub pending : e.pending ≡ []

-- ---- an open end

same_open : {rows : List (ℕ × ℕ)} → (e next : EndValue ℕ) → next.pending ≡ e.pending → next.state ≡ e.state → next.stop ≡ e.stop → IsOpen rows e → IsOpen rows next
same_open e next pending state stop old = record { pending = pending ∙ old.pending; staying = ap is_closed state ∙ old.staying; stop = subst IsOther (sym stop) old.stop }

open_by : {rows : List (ℕ × ℕ)} → (flag : Bool) (one other : EndValue ℕ) → IsOpen rows one → IsOpen rows other → IsOpen rows (if flag then one else other)
open_by true one other first second = first
open_by false one other first second = second

leveled_open : {rows : List (ℕ × ℕ)} → (e : EndValue ℕ) → IsOpen rows e → IsOpen rows (leveled e)
leveled_open e old = open_by (is_due e.is_loud (level_of (length e.inbox))) _ e (same_open e _ refl refl refl old) old

sent_out_open : {rows : List (ℕ × ℕ)} → (h : Held) (e : EndValue ℕ) → IsOpen rows e → IsOpen rows (sent_out h e)
sent_out_open h e old = open_by h.is_redirect _ _ (record { pending = old.pending; staying = refl; stop = old.stop }) (same_open e _ refl refl refl old)

let_out_open : {rows : List (ℕ × ℕ)} → (held : List Held) (e : EndValue ℕ) → IsOpen rows e → IsOpen rows (let_out held e)
let_out_open [] e old = same_open e _ refl refl refl old
let_out_open (h ∷ held) e old =
    let next = sent_out h (record e { held = held }) in
    let first = sent_out_open h (record e { held = held }) (same_open e (record e { held = held }) refl refl refl old) in
    open_by h.is_redirect next (let_out held next) first (let_out_open held next first)

released_open : {rows : List (ℕ × ℕ)} → (e : EndValue ℕ) → IsOpen rows e → IsOpen rows (released e)
released_open e old = open_by (is_free e) (let_out e.held e) e (let_out_open e.held e old) old

pub queued_open : {rows : List (ℕ × ℕ)} → (message : MessageValue) (mark : Option ℕ) (e : EndValue ℕ) → IsOpen rows e → IsOpen rows (queued message mark e)
queued_open message mark e old = open_by (is_closed e.state) e _ old (same_open e _ refl refl refl old)

pub commanded_open : {rows : List (ℕ × ℕ)} → (service name body : List ℕ) (tag : ℕ) (mark : Option ℕ) (e : EndValue ℕ) → IsOpen rows e → IsOpenEnd (commanded service name body tag mark e)
commanded_open service name body tag mark e old =
    let h = made (e.last + 1) service name body mark in
    let held = record e { held = e.held ++ h ∷ [] } in
    let kept = open_by (is_free e) (sent_out h e) held (sent_out_open h e old) (same_open e held refl refl refl old) in
    record { pending = refl; staying = kept.staying; stop = kept.stop }

pub emptied_open : {rows : List (ℕ × ℕ)} → (e : EndValue ℕ) → IsOpen rows e → IsOpen rows (emptied e)
emptied_open e old = open_by e.is_spent e _ old (same_open e _ refl refl refl old)

-- ---- what comes to it

entered_open : {rows : List (ℕ × ℕ)} → (raw : List ℕ) (mark : Option ℕ) (e : EndValue ℕ) → IsOpen rows e → IsOpen rows (entered raw mark e)
entered_open raw mark e old =
    let next = record e { inbox = e.inbox ++ record { number = e.came; incoming = record { raw = raw; mark = mark } } ∷ [] } in
    leveled_open next (same_open e next refl refl refl old)

heard_open : {rows : List (ℕ × ℕ)} → (raw : List ℕ) (mark : Option ℕ) (message : Result MessageValue MessageFault) (e : EndValue ℕ) → IsOpen rows e → IsOpen rows (heard raw mark message e)
heard_open raw mark (Err fault) e old = record { pending = old.pending; staying = old.staying; stop = λ is. cc }
heard_open raw mark (Ok (flow level)) e old = released_open (record e { told = level }) (same_open e _ refl refl refl old)
heard_open raw mark (Ok (command token service name body)) e old = entered_open raw mark e old
heard_open raw mark (Ok (final token body)) e old = entered_open raw mark e old
heard_open raw mark (Ok (progress token body)) e old = entered_open raw mark e old
heard_open raw mark (Ok (not_known token)) e old = entered_open raw mark e old
heard_open raw mark (Ok (event service name body)) e old = entered_open raw mark e old

item_open : {rows : List (ℕ × ℕ)} → (mark : Option ℕ) (item : Item) (e : EndValue ℕ) → IsOpen rows e → IsOpen rows (item_came mark item e)
item_open mark (items.Message raw) e old = heard_open raw mark (reading raw) (record e { came = counted e.came }) (same_open e _ refl refl refl old)
item_open mark items.End e old = record { pending = old.pending; staying = old.staying; stop = λ is. cc }

came_by_open : {rows : List (ℕ × ℕ)} → (mark : Option ℕ) (list : List Item) (e : EndValue ℕ) → IsOpen rows e → IsOpen rows (came_by mark list e)
came_by_open mark [] e old = old
came_by_open mark (item ∷ list) e old =
    came_by_open mark list (if is_over e then e else item_came mark item e) (open_by (is_over e) e _ old (item_open mark item e old))

stopped_open : {rows : List (ℕ × ℕ)} → (answer : Result Unit StreamFault) (e : EndValue ℕ) → IsOpen rows e → IsOpen rows (stopped_by answer e)
stopped_open (Ok done) e old = old
stopped_open (Err fault) e old = open_by (is_over e) e _ old (record { pending = old.pending; staying = old.staying; stop = λ is. cc })

pub delivered_open : {rows : List (ℕ × ℕ)} → (piece : List ℕ) (mark : Option ℕ) (e : EndValue ℕ) → IsOpen rows e → IsOpen rows (delivered piece mark e)
delivered_open piece mark e old =
    let given = fed piece e.stream in
    let next = record e { stream = given.reader } in
    stopped_open given.answer (came_by mark given.items next) (came_by_open mark given.items next (same_open e next refl refl refl old))

pub ended_open : {rows : List (ℕ × ℕ)} → (e : EndValue ℕ) → IsOpen rows e → IsOpen rows (if e.is_spent then e else ended e)
ended_open e old = open_by e.is_spent e _ old (open_by (is_over e) e _ old (record { pending = old.pending; staying = old.staying; stop = λ is. cc }))

-- ---- what is taken from it: it stays open, or closes for another cause than its own side's

greeted_state : (state : EndState) (redirect : Option ℕ) → is_closed state ≡ false → is_closed (state_greeted state redirect) ≡ false
greeted_state Opening redirect staying = refl
greeted_state Live redirect staying = refl
greeted_state Reopening None staying = refl
greeted_state Reopening (Some token) staying = refl
greeted_state (Closed cause) redirect staying = staying

greeted_open : {rows : List (ℕ × ℕ)} → (e : EndValue ℕ) → IsOpen rows e → IsOpen rows (greeted e)
greeted_open e old = released_open (record e { state = state_greeted e.state e.redirect }) (record { pending = old.pending; staying = greeted_state e.state e.redirect old.staying; stop = old.stop })

redirected_open : {rows : List (ℕ × ℕ)} → (done : Bool) (e : EndValue ℕ) → IsOpen rows e → IsOpen rows (redirected done e)
redirected_open true e old = same_open e _ refl refl refl old
redirected_open false e old = released_open (record e { redirect = None; state = Live }) (record { pending = old.pending; staying = refl; stop = old.stop })

answered_open : {rows : List (ℕ × ℕ)} → (token : ℕ) (done : Bool) (e : EndValue ℕ) → IsOpen rows e → IsOpen rows (answered token done e)
answered_open token done e old = open_by (is_of token e.redirect) (redirected done e) e (redirected_open done e old) old

pub record ClosesFor (cause : Cause) (e : EndValue ℕ) : Type 0 where
  pub closed : e.state ≡ Closed cause
  pub other : cause ≢ causes.Own

abbrev pub Leaves : Taken ℕ → EndValue ℕ → Type 0
Leaves (taken.Hello incoming) e = IsOpenEnd e
Leaves (taken.Event incoming) e = IsOpenEnd e
Leaves (taken.Command incoming) e = IsOpenEnd e
Leaves (taken.Progress number incoming) e = IsOpenEnd e
Leaves (taken.Final number incoming) e = IsOpenEnd e
Leaves (taken.Closed cause) e = ClosesFor cause e

abbrev pub Outcome : Option (Taken ℕ) → EndValue ℕ → Type 0
Outcome None e = IsOpenEnd e
Outcome (Some what) e = Leaves what e

abbrev Gives : Option (Taken ℕ) × EndValue ℕ → Type 0
Gives p = Outcome p.0 p.1

breaks : (number : ℕ) (reason : Reason) (e : EndValue ℕ) → Gives (broken number reason e)
breaks number reason e = record { closed = refl; other = λ is. cc }

progressed_gives : (number : ℕ) (incoming : Incoming) (token : Option ℕ) (e : EndValue ℕ) → IsOpenEnd e → Gives (progressed number incoming token e)
progressed_gives number incoming None e old = breaks number Token e
progressed_gives number incoming (Some token) e old = own_open (leveled e) (leveled_open e old)

finished_gives : (number : ℕ) (incoming : Incoming) (place : ℕ) (done : Bool) (row : Option (ℕ × ℕ)) (e : EndValue ℕ) → IsOpenEnd e → Gives (finished number incoming place done row e)
finished_gives number incoming place done None e old = breaks number Token e
finished_gives number incoming place done (Some row) e old =
    let left = record e { pending = remove e.pending place } in
    let first = leveled_open left (record { pending = refl; staying = old.staying; stop = old.stop }) in
    own_open (answered row.0 done (leveled left)) (answered_open row.0 done (leveled left) first)

as_gives : (number : ℕ) (incoming : Incoming) (what : Judged) (e : EndValue ℕ) → IsOpenEnd e → Gives (taken_as number incoming what e)
as_gives number incoming judges.TooEarly e old = record { closed = refl; other = λ is. cc }
as_gives number incoming judges.Stray e old = breaks number Token e
as_gives number incoming judges.Greets e old = own_open (greeted (leveled e)) (greeted_open (leveled e) (leveled_open e old))
as_gives number incoming judges.Tells e old = own_open (leveled e) (leveled_open e old)
as_gives number incoming judges.Asks e old = own_open (leveled e) (leveled_open e old)
as_gives number incoming (judges.GoesOn place) e old = progressed_gives number incoming (number_at place e.pending) e old
as_gives number incoming (judges.Answers place done) e old = finished_gives number incoming place done (slice_get e.pending place) e old

stop_gives : (stop : Option Cause) (e : EndValue ℕ) → IsOther stop → IsOpenEnd e → Gives (stop_taken stop e)
stop_gives None e other old = old
stop_gives (Some cause) e other old = record { closed = refl; other = other }

from_gives : (inbox : List Arrived) (e : EndValue ℕ) → IsOpenEnd e → Gives (taken_from inbox e)
from_gives [] e old = stop_gives e.stop e old.stop old
from_gives (arrived ∷ inbox) e old =
    let left : EndValue ℕ = record e { inbox = inbox } in
    as_gives arrived.number arrived.incoming (judged (said_in arrived.incoming.raw) left) left (same_open e left refl refl refl old)

pub next_gives : (e : EndValue ℕ) → IsOpenEnd e → Outcome (next_taken e).0 (next_taken e).1
next_gives e old = from_gives e.inbox e old

-- ---- a closed end

pub closed_then : (cause : Cause) (e : EndValue ℕ) → IsShut cause e → is_closed e.state ≡ true
closed_then cause e old = ap is_closed old.closed

over_then : (e : EndValue ℕ) → is_closed e.state ≡ true → is_over e ≡ true
over_then e on = or_left (is_closed e.state) (is_some e.stop) on

-- what comes to it changes nothing but what was read
first_if : (flag : Bool) (e other : EndValue ℕ) → flag ≡ true → (if flag then e else other) ≡ e
first_if true e other on = refl
first_if false e other on = cc

came_by_over : (mark : Option ℕ) (list : List Item) (e : EndValue ℕ) → is_over e ≡ true → came_by mark list e ≡ e
came_by_over mark [] e on = refl
came_by_over mark (item ∷ list) e on = ap (came_by mark list) (first_if (is_over e) e (item_came mark item e) on) ∙ came_by_over mark list e on

stopped_over : (answer : Result Unit StreamFault) (e : EndValue ℕ) → is_over e ≡ true → stopped_by answer e ≡ e
stopped_over (Ok done) e on = refl
stopped_over (Err fault) e on = first_if (is_over e) e _ on

pub delivered_over : (piece : List ℕ) (mark : Option ℕ) (e : EndValue ℕ) → is_closed e.state ≡ true → delivered piece mark e ≡ record e { stream = (fed piece e.stream).reader }
delivered_over piece mark e on =
    let given = fed piece e.stream in
    let next : EndValue ℕ = record e { stream = given.reader } in
    ap (stopped_by given.answer) (came_by_over mark given.items next (over_then e on)) ∙ stopped_over given.answer next (over_then e on)

pub ended_over : (e : EndValue ℕ) → is_closed e.state ≡ true → (if e.is_spent then e else ended e) ≡ e
ended_over e on = by_flag e.is_spent
  where
    by_flag : (flag : Bool) → (if flag then e else ended e) ≡ e
    by_flag true = refl
    by_flag false = first_if (is_over e) e _ (over_then e on)

module _ (cause : Cause) where
  shut_by : (flag : Bool) (one other : EndValue ℕ) → IsShut cause one → IsShut cause other → IsShut cause (if flag then one else other)
  shut_by true one other first second = first
  shut_by false one other first second = second

  pub delivered_shut : (piece : List ℕ) (mark : Option ℕ) (e : EndValue ℕ) → IsShut cause e → IsShut cause (delivered piece mark e)
  delivered_shut piece mark e old = subst (IsShut cause) (sym (delivered_over piece mark e (closed_then cause e old))) (record { closed = old.closed; pending = old.pending })

  pub ended_shut : (e : EndValue ℕ) → IsShut cause e → IsShut cause (if e.is_spent then e else ended e)
  ended_shut e old = subst (IsShut cause) (sym (ended_over e (closed_then cause e old))) old

  pub emptied_shut : (e : EndValue ℕ) → IsShut cause e → IsShut cause (emptied e)
  emptied_shut e old = shut_by e.is_spent e _ old (record { closed = old.closed; pending = old.pending })

  pub refused_then : (size : ℕ) (e : EndValue ℕ) → IsShut cause e → refusal_of size e ≡ Some NotOpen
  refused_then size e old = rw (closed_then cause e old) refl

-- ---- a closed end that has nothing to send, which stays so

pub record IsSilent (e : EndValue ℕ) : Type 0 where
  pub closed : is_closed e.state ≡ true
  pub none : queue_of (Some e) ≡ []

pub delivered_silent : (piece : List ℕ) (mark : Option ℕ) (e : EndValue ℕ) → IsSilent e → IsSilent (delivered piece mark e)
delivered_silent piece mark e old = subst IsSilent (sym (delivered_over piece mark e old.closed)) (record { closed = old.closed; none = old.none })

pub ended_silent : (e : EndValue ℕ) → IsSilent e → IsSilent (if e.is_spent then e else ended e)
ended_silent e old = subst IsSilent (sym (ended_over e old.closed)) old

pub emptied_silent : (e : EndValue ℕ) → is_closed e.state ≡ true → IsSilent (emptied e)
emptied_silent e on = by_flag e.is_spent
  where
    by_flag : (spent : Bool) → IsSilent (emptied (record e { is_spent = spent }))
    by_flag true = record { closed = on; none = refl }
    by_flag false = record { closed = on; none = refl }
