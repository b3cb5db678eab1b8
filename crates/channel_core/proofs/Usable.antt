-- No step spends an end: only want of memory does.
use Rattle.std.proofs.Common.{◌≡◌, ℕ, ℤ, Bool, true, false, List, [], ◌∷◌, Option, Some, None, Result, Ok, Err, refl, ap, ◌∙◌}
use Rattle.std.specs.Prelude.{if◌then◌else◌, length, ◌++◌, remove, slice_get, IfOk, OnOk}
use Rattle.stream_escape.specs.Fed.{fed}
use Rattle.stream_escape.specs.declared.stream.Item.{Item}
use Rattle.stream_escape.specs.declared.stream.Item.TheVariants as items
use Rattle.stream_escape.specs.declared.stream.StreamFault.{StreamFault}
use Rattle.tcf_message.specs.Message.{MessageValue, command, final, progress, not_known, event, flow, reading}
use Rattle.tcf_message.specs.declared.message.MessageFault.{MessageFault}
use Rattle.channel_core.specs.EndValue.{EndValue}
use Rattle.channel_core.specs.Holding.{is_free, let_out, released, sent_out}
use Rattle.channel_core.specs.Level.{is_due, level_of, leveled, leveled_to}
use Rattle.channel_core.specs.Closing.{is_closed}
use Rattle.channel_core.specs.Sending.{commanded, queued, sent_or_held}
use Rattle.channel_core.specs.Receiving.{came_by, delivered, counted, entered, heard, is_over, item_came, stopped_by}
use Rattle.channel_core.specs.Taking.{answered, finished, greeted, is_of, judged, next_taken, number_at, progressed, redirected, state_greeted, stop_taken, taken_as, taken_from}
use Rattle.channel_core.specs.Wire.{said_in}
use Rattle.channel_core.specs.declared.held.Arrived.{Arrived}
use Rattle.channel_core.specs.declared.held.Held.{Held}
use Rattle.channel_core.specs.declared.held.Incoming.{Incoming}
use Rattle.channel_core.specs.declared.states.Cause.{Cause}
use Rattle.channel_core.specs.declared.states.EndState.TheVariants.{Live}
use Rattle.channel_core.specs.declared.taking.Taken.{Taken}
use Rattle.channel_core.specs.Judged.{Judged, TooEarly, Stray, Greets, Tells, Asks, GoesOn, Answers}

abbrev IsKept : {T : Type 0} → EndValue T → EndValue T → Type 0
IsKept old new = new.is_spent ≡ old.is_spent

by_flag : {T : Type 0} → (flag : Bool) (e one other : EndValue T) → IsKept e one → IsKept e other → IsKept e (if flag then one else other)
by_flag true e one other first second = first
by_flag false e one other first second = second

pub leveled_to_kept : {T : Type 0} → (level : ℤ) (e : EndValue T) → IsKept e (leveled_to level e)
leveled_to_kept level e = by_flag (is_due e.is_loud level) e _ e refl refl

pub leveled_kept : {T : Type 0} → (e : EndValue T) → IsKept e (leveled e)
leveled_kept e = leveled_to_kept (level_of (length e.inbox)) e

pub sent_out_kept : {T : Type 0} → (h : Held) (e : EndValue T) → IsKept e (sent_out h e)
sent_out_kept h e = by_flag h.is_redirect e _ _ refl refl

pub let_out_kept : {T : Type 0} → (held : List Held) (e : EndValue T) → IsKept e (let_out held e)
let_out_kept [] e = refl
let_out_kept (h ∷ held) e =
    let next = sent_out h (record e { held = held }) in
    let first : IsKept e next = sent_out_kept h (record e { held = held }) in
    by_flag h.is_redirect e next (let_out held next) first (let_out_kept held next ∙ first)

pub released_kept : {T : Type 0} → (e : EndValue T) → IsKept e (released e)
released_kept e = by_flag (is_free e) e (let_out e.held e) e (let_out_kept e.held e) refl

-- ---- sending

pub sent_or_held_kept : {T : Type 0} → (h : Held) (e : EndValue T) → IsKept e (sent_or_held h e)
sent_or_held_kept h e = by_flag (is_free e) e _ _ (sent_out_kept h e) refl

pub commanded_kept : {T : Type 0} → (service name body : List ℕ) (tag : T) (mark : Option ℕ) (e : EndValue T) → IsKept e (commanded service name body tag mark e)
commanded_kept service name body tag mark e = sent_or_held_kept _ e

pub command_kept : {T V E : Type 0} → (answer : Result V E) (old new : EndValue T) (service name body : List ℕ) (tag : T) (mark : Option ℕ) → old.is_spent ≡ false
    → OnOk answer (new ≡ commanded service name body tag mark old) → OnOk answer (new.is_spent ≡ false)
command_kept (Ok token) old new service name body tag mark fresh sent = ap (λ e. e.is_spent) sent ∙ commanded_kept service name body tag mark old ∙ fresh
command_kept (Err refused) old new service name body tag mark fresh sent = tt

pub queued_kept : {T : Type 0} → (message : MessageValue) (mark : Option ℕ) (e : EndValue T) → IsKept e (queued message mark e)
queued_kept message mark e = by_flag (is_closed e.state) e _ _ refl refl

-- ---- what comes

entered_kept : {T : Type 0} → (raw : List ℕ) (mark : Option ℕ) (e : EndValue T) → IsKept e (entered raw mark e)
entered_kept raw mark e =
    leveled_kept (record e { inbox = e.inbox ++ record { number = e.came; incoming = record { raw = raw; mark = mark } } ∷ [] })

heard_kept : {T : Type 0} → (raw : List ℕ) (mark : Option ℕ) (message : Result MessageValue MessageFault) (e : EndValue T) → IsKept e (heard raw mark message e)
heard_kept raw mark (Err fault) e = refl
heard_kept raw mark (Ok (flow level)) e = released_kept (record e { told = level })
heard_kept raw mark (Ok (command token service name body)) e = entered_kept raw mark e
heard_kept raw mark (Ok (final token body)) e = entered_kept raw mark e
heard_kept raw mark (Ok (progress token body)) e = entered_kept raw mark e
heard_kept raw mark (Ok (not_known token)) e = entered_kept raw mark e
heard_kept raw mark (Ok (event service name body)) e = entered_kept raw mark e

item_kept : {T : Type 0} → (mark : Option ℕ) (item : Item) (e : EndValue T) → IsKept e (item_came mark item e)
item_kept mark (items.Message raw) e = heard_kept raw mark (reading raw) (record e { came = counted e.came })
item_kept mark items.End e = refl

pub came_by_kept : {T : Type 0} → (mark : Option ℕ) (list : List Item) (e : EndValue T) → IsKept e (came_by mark list e)
came_by_kept mark [] e = refl
came_by_kept mark (item ∷ list) e =
    let next = if is_over e then e else item_came mark item e in
    let first : IsKept e next = by_flag (is_over e) e _ _ refl (item_kept mark item e) in
    came_by_kept mark list next ∙ first

pub stopped_kept : {T : Type 0} → (answer : Result Unit StreamFault) (e : EndValue T) → IsKept e (stopped_by answer e)
stopped_kept (Ok done) e = refl
stopped_kept (Err fault) e = by_flag (is_over e) e _ _ refl refl

pub delivered_kept : {T : Type 0} → (piece : List ℕ) (mark : Option ℕ) (e : EndValue T) → IsKept e (delivered piece mark e)
delivered_kept piece mark e =
    let given = fed piece e.stream in
    let next = record e { stream = given.reader } in
    stopped_kept given.answer (came_by mark given.items next) ∙ came_by_kept mark given.items next

-- ---- taking

greeted_kept : {T : Type 0} → (e : EndValue T) → IsKept e (greeted e)
greeted_kept e = released_kept (record e { state = state_greeted e.state e.redirect })

redirected_kept : {T : Type 0} → (done : Bool) (e : EndValue T) → IsKept e (redirected done e)
redirected_kept true e = refl
redirected_kept false e = released_kept (record e { redirect = None; state = Live })

answered_kept : {T : Type 0} → (token : ℕ) (done : Bool) (e : EndValue T) → IsKept e (answered token done e)
answered_kept token done e = by_flag (is_of token e.redirect) e _ _ (redirected_kept done e) refl

progressed_kept : {T : Type 0} → (number : ℕ) (incoming : Incoming) (token : Option ℕ) (e : EndValue T) → IsKept e (progressed number incoming token e).1
progressed_kept number incoming None e = refl
progressed_kept number incoming (Some token) e = leveled_kept e

finished_kept : {T : Type 0} → (number : ℕ) (incoming : Incoming) (place : ℕ) (done : Bool) (row : Option (ℕ × T)) (e : EndValue T) → IsKept e (finished number incoming place done row e).1
finished_kept number incoming place done None e = refl
finished_kept number incoming place done (Some row) e =
    let left = record e { pending = remove e.pending place } in
    answered_kept row.0 done (leveled left) ∙ leveled_kept left

taken_as_kept : {T : Type 0} → (number : ℕ) (incoming : Incoming) (what : Judged) (e : EndValue T) → IsKept e (taken_as number incoming what e).1
taken_as_kept number incoming TooEarly e = refl
taken_as_kept number incoming Stray e = refl
taken_as_kept number incoming Greets e = greeted_kept (leveled e) ∙ leveled_kept e
taken_as_kept number incoming Tells e = leveled_kept e
taken_as_kept number incoming Asks e = leveled_kept e
taken_as_kept number incoming (GoesOn place) e = progressed_kept number incoming (number_at place e.pending) e
taken_as_kept number incoming (Answers place done) e = finished_kept number incoming place done (slice_get e.pending place) e

stop_kept : {T : Type 0} → (stop : Option Cause) (e : EndValue T) → IsKept e (stop_taken stop e).1
stop_kept None e = refl
stop_kept (Some cause) e = refl

from_kept : {T : Type 0} → (inbox : List Arrived) (e : EndValue T) → IsKept e (taken_from inbox e).1
from_kept [] e = stop_kept e.stop e
from_kept (arrived ∷ inbox) e = taken_as_kept arrived.number arrived.incoming (judged (said_in arrived.incoming.raw) (record e { inbox = inbox })) (record e { inbox = inbox })

pub next_kept : {T : Type 0} → (e : EndValue T) → IsKept e (next_taken e).1
next_kept e = from_kept e.inbox e

-- an answer, which may be want of memory, leaves the end usable where it was so
pub taken_usable : {T E : Type 0} → (answer : Result (Option (Taken T)) E) (e next : EndValue T) → e.is_spent ≡ false
    → IfOk answer (λ what. (what, next) ≡ next_taken e) → OnOk answer (next.is_spent ≡ false)
taken_usable (Ok what) e next fresh is = ap (λ t. t.1.is_spent) is ∙ next_kept e ∙ fresh
taken_usable (Err error) e next fresh is = tt
