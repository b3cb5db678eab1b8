-- What the steps of a call keep, the call keeps.
use Rattle.std.proofs.Common.{◌≡◌, ℕ, ℤ, Bool, true, false, cond, List, [], ◌∷◌, ◌++◌, length, Option, Some, None, Result, Ok, Err, is_some, refl, ap, ◌∙◌, subst}
use Rattle.std.specs.Prelude.{slice_get, remove}
use Rattle.std.proofs.lemmas.Bool.{or_parts}
use Rattle.stream_escape.specs.Value.{UnescapeValue}
use Rattle.stream_escape.specs.Fed.{fed}
use Rattle.stream_escape.specs.declared.stream.Item.{Item}
use Rattle.stream_escape.specs.declared.stream.Item.TheVariants as items
use Rattle.stream_escape.specs.declared.stream.StreamFault.{StreamFault}
use Rattle.tcf_message.specs.Message.{MessageValue, command, final, progress, not_known, event, flow, reading}
use Rattle.tcf_message.specs.declared.message.MessageFault.{MessageFault}
use Rattle.channel_core.specs.Closing.{closed_for, closed_own, is_closed}
use Rattle.channel_core.specs.EndValue.{EndValue}
use Rattle.channel_core.specs.Holding.{is_free, let_out, released, sent_out}
use Rattle.channel_core.specs.Level.{leveled, is_due, level_of}
use Rattle.channel_core.specs.Receiving.{came_by, counted, delivered, ended, heard, is_over, item_came, stopped_by, with_last}
use Rattle.channel_core.specs.Taking.{answered, finished, greeted, is_of, judged, next_taken, number_at, progressed, redirected, state_greeted, stop_taken, taken_as, taken_from}
use Rattle.channel_core.specs.Wire.{said_in}
use Rattle.channel_core.specs.declared.held.Arrived.{Arrived}
use Rattle.channel_core.specs.declared.held.Held.{Held}
use Rattle.channel_core.specs.declared.held.Incoming.{Incoming}
use Rattle.channel_core.specs.declared.states.Cause.{Cause}
use Rattle.channel_core.specs.declared.states.Cause.TheVariants.{Own, Eos, Ended, Protocol, Stream}
use Rattle.channel_core.specs.declared.states.EndState.{EndState}
use Rattle.channel_core.specs.declared.states.EndState.TheVariants.{Opening, Live, Reopening, Closed}
use Rattle.channel_core.specs.declared.states.Reason.TheVariants.{Grammar, Early, Token}
use Rattle.channel_core.specs.Judged.{Judged, TooEarly, Stray, Greets, Tells, Asks, GoesOn, Answers}

-- each step of a call keeps it
pub record Keeps {T : Type 0} (I : EndValue T → Type 0) : Type 0 where
  pub feeds : (e : EndValue T) (stream : UnescapeValue) (came : ℕ) → I e → I (record e { stream = stream; came = came })
  pub stops : (e : EndValue T) (cause : Cause) → is_closed e.state ≡ false → I e → I (with_last cause e)
  pub hears : (e : EndValue T) (level : ℤ) → is_closed e.state ≡ false → I e → I (released (record e { told = level }))
  pub enters : (e : EndValue T) (arrived : Arrived) → is_closed e.state ≡ false → I e → I (leveled (record e { inbox = e.inbox ++ arrived ∷ [] }))
  pub leaves : (e : EndValue T) (arrived : Arrived) (inbox : List Arrived) → e.inbox ≡ arrived ∷ inbox → is_closed e.state ≡ false → I e → I (leveled (record e { inbox = inbox }))
  pub greets : (e : EndValue T) → is_closed e.state ≡ false → I e → I (greeted e)
  pub redirects : (e : EndValue T) (done : Bool) → is_closed e.state ≡ false → I e → I (redirected done e)
  pub closes : (e : EndValue T) (cause : Cause) → is_closed e.state ≡ false → I e → I (closed_for cause e)

-- ---- A piece

-- neither closed nor with a last entry
pub open_of : {T : Type 0} → (e : EndValue T) → is_over e ≡ false → is_closed e.state ≡ false
open_of e over = (or_parts (is_closed e.state) (is_some e.stop) over).0

heard_keeps : {T : Type 0} {I : EndValue T → Type 0} → Keeps I → (raw : List ℕ) (mark : Option ℕ) (message : Result MessageValue MessageFault) (e : EndValue T)
    → is_closed e.state ≡ false → I e → I (heard raw mark message e)
heard_keeps k raw mark (Err fault) e opened i = k.stops e (Protocol e.came (Grammar fault)) opened i
heard_keeps k raw mark (Ok (flow level)) e opened i = k.hears e level opened i
heard_keeps k raw mark (Ok (command token service name body)) e opened i = k.enters e (record { number = e.came; incoming = record { raw = raw; mark = mark } }) opened i
heard_keeps k raw mark (Ok (final token body)) e opened i = k.enters e (record { number = e.came; incoming = record { raw = raw; mark = mark } }) opened i
heard_keeps k raw mark (Ok (progress token body)) e opened i = k.enters e (record { number = e.came; incoming = record { raw = raw; mark = mark } }) opened i
heard_keeps k raw mark (Ok (not_known token)) e opened i = k.enters e (record { number = e.came; incoming = record { raw = raw; mark = mark } }) opened i
heard_keeps k raw mark (Ok (event service name body)) e opened i = k.enters e (record { number = e.came; incoming = record { raw = raw; mark = mark } }) opened i

item_keeps : {T : Type 0} {I : EndValue T → Type 0} → Keeps I → (mark : Option ℕ) (item : Item) (e : EndValue T) → is_closed e.state ≡ false → I e → I (item_came mark item e)
item_keeps k mark (items.Message raw) e opened i = heard_keeps k raw mark (reading raw) (record e { came = counted e.came }) opened (k.feeds e e.stream (counted e.came) i)
item_keeps k mark items.End e opened i = k.stops e Eos opened i

item_by : {T : Type 0} {I : EndValue T → Type 0} → Keeps I → (flag : Bool) (mark : Option ℕ) (item : Item) (e : EndValue T) → is_over e ≡ flag → I e
    → I (cond flag e (item_came mark item e))
item_by k true mark item e over i = i
item_by k false mark item e over i = item_keeps k mark item e (open_of e over) i

came_keeps : {T : Type 0} {I : EndValue T → Type 0} → Keeps I → (mark : Option ℕ) (list : List Item) (e : EndValue T) → I e → I (came_by mark list e)
came_keeps k mark [] e i = i
came_keeps k mark (item ∷ list) e i = came_keeps k mark list (cond (is_over e) e (item_came mark item e)) (item_by k (is_over e) mark item e refl i)

stop_by : {T : Type 0} {I : EndValue T → Type 0} → Keeps I → (flag : Bool) (cause : Cause) (e : EndValue T) → is_over e ≡ flag → I e → I (cond flag e (with_last cause e))
stop_by k true cause e over i = i
stop_by k false cause e over i = k.stops e cause (open_of e over) i

stopped_keeps : {T : Type 0} {I : EndValue T → Type 0} → Keeps I → (answer : Result Unit StreamFault) (e : EndValue T) → I e → I (stopped_by answer e)
stopped_keeps k (Ok done) e i = i
stopped_keeps k (Err fault) e i = stop_by k (is_over e) (Stream fault) e refl i

pub delivered_keeps : {T : Type 0} {I : EndValue T → Type 0} → Keeps I → (piece : List ℕ) (mark : Option ℕ) (e : EndValue T) → I e → I (delivered piece mark e)
delivered_keeps k piece mark e i =
    let given = fed piece e.stream in
    stopped_keeps k given.answer (came_by mark given.items (record e { stream = given.reader }))
    (came_keeps k mark given.items (record e { stream = given.reader }) (k.feeds e given.reader e.came i))

pub ended_keeps : {T : Type 0} {I : EndValue T → Type 0} → Keeps I → (e : EndValue T) → I e → I (ended e)
ended_keeps k e i = stop_by k (is_over e) Ended e refl i

-- ---- Closing by its own side

own_by : {T : Type 0} {I : EndValue T → Type 0} → Keeps I → (flag : Bool) (e : EndValue T) → is_closed e.state ≡ flag → I e → I (cond flag e (closed_for Own e))
own_by k true e is i = i
own_by k false e is i = k.closes e Own is i

pub closed_keeps : {T : Type 0} {I : EndValue T → Type 0} → Keeps I → (e : EndValue T) → I e → I (closed_own e)
closed_keeps k e i = own_by k (is_closed e.state) e refl i

-- ---- The next entry

state_by : {T : Type 0} → (flag : Bool) (other e : EndValue T) → other.state ≡ e.state → (cond flag other e).state ≡ e.state
state_by true other e is = is
state_by false other e is = refl

pub leveled_state : {T : Type 0} → (e : EndValue T) → (leveled e).state ≡ e.state
leveled_state e = state_by (is_due e.is_loud (level_of (length e.inbox))) _ e refl

answered_by : {T : Type 0} {I : EndValue T → Type 0} → Keeps I → (flag done : Bool) (e : EndValue T) → is_closed e.state ≡ false → I e → I (cond flag (redirected done e) e)
answered_by k true done e opened i = k.redirects e done opened i
answered_by k false done e opened i = i

pub answered_keeps : {T : Type 0} {I : EndValue T → Type 0} → Keeps I → (token : ℕ) (done : Bool) (e : EndValue T) → is_closed e.state ≡ false → I e → I (answered token done e)
answered_keeps k token done e opened i = answered_by k (is_of token e.redirect) done e opened i

-- what is pending doesn't matter to it
abbrev pub KeepsAny : {T : Type 0} → (EndValue T → Type 0) → Type 0
KeepsAny {T} I = (e : EndValue T) (pending : List (ℕ × T)) → I e → I (record e { pending = pending })

progressed_keeps : {T : Type 0} {I : EndValue T → Type 0} → Keeps I → (number : ℕ) (incoming : Incoming) (token : Option ℕ) (arrived : Arrived) (inbox : List Arrived) (e : EndValue T)
    → e.inbox ≡ arrived ∷ inbox → is_closed e.state ≡ false → I e → I (progressed number incoming token (record e { inbox = inbox })).1
progressed_keeps k number incoming None arrived inbox e is opened i = k.closes e (Protocol number Token) opened i
progressed_keeps k number incoming (Some token) arrived inbox e is opened i = k.leaves e arrived inbox is opened i

finished_keeps : {T : Type 0} {I : EndValue T → Type 0} → Keeps I → KeepsAny I → (number : ℕ) (incoming : Incoming) (place : ℕ) (done : Bool) (row : Option (ℕ × T)) (arrived : Arrived) (inbox : List Arrived) (e : EndValue T)
    → e.inbox ≡ arrived ∷ inbox → is_closed e.state ≡ false → I e → I (finished number incoming place done row (record e { inbox = inbox })).1
finished_keeps k any number incoming place done None arrived inbox e is opened i = k.closes e (Protocol number Token) opened i
finished_keeps k any number incoming place done (Some row) arrived inbox e is opened i =
    let left = record e { pending = remove e.pending place } in
    answered_keeps k row.0 done (leveled (record left { inbox = inbox })) (ap is_closed (leveled_state (record left { inbox = inbox })) ∙ opened)
    (k.leaves left arrived inbox is opened (any e (remove e.pending place) i))

judged_keeps : {T : Type 0} {I : EndValue T → Type 0} → Keeps I → KeepsAny I → (number : ℕ) (incoming : Incoming) (judged : Judged) (arrived : Arrived) (inbox : List Arrived) (e : EndValue T)
    → e.inbox ≡ arrived ∷ inbox → is_closed e.state ≡ false → I e → I (taken_as number incoming judged (record e { inbox = inbox })).1
judged_keeps k any number incoming TooEarly arrived inbox e is opened i = k.closes e (Protocol number Early) opened i
judged_keeps k any number incoming Stray arrived inbox e is opened i = k.closes e (Protocol number Token) opened i
judged_keeps k any number incoming Greets arrived inbox e is opened i =
    k.greets (leveled (record e { inbox = inbox })) (ap is_closed (leveled_state (record e { inbox = inbox })) ∙ opened) (k.leaves e arrived inbox is opened i)
judged_keeps k any number incoming Tells arrived inbox e is opened i = k.leaves e arrived inbox is opened i
judged_keeps k any number incoming Asks arrived inbox e is opened i = k.leaves e arrived inbox is opened i
judged_keeps k any number incoming (GoesOn place) arrived inbox e is opened i = progressed_keeps k number incoming (number_at place e.pending) arrived inbox e is opened i
judged_keeps k any number incoming (Answers place done) arrived inbox e is opened i = finished_keeps k any number incoming place done (slice_get e.pending place) arrived inbox e is opened i

-- the inbox of a closed end is empty
pub record IsTidy {T : Type 0} (e : EndValue T) : Type 0 where
  pub emptied : is_closed e.state ≡ true → e.inbox ≡ []
  pub stopped : is_closed e.state ≡ true → e.stop ≡ None

-- an end with a message in its inbox, or with a last entry, isn't closed
pub open_by_inbox : {T : Type 0} → (e : EndValue T) (arrived : Arrived) (inbox : List Arrived) → IsTidy e → e.inbox ≡ arrived ∷ inbox → is_closed e.state ≡ false
open_by_inbox e arrived inbox tidy is = by_flag (is_closed e.state) refl
  where
    by_flag : (flag : Bool) → is_closed e.state ≡ flag → is_closed e.state ≡ false
    by_flag true closed = let none = tidy.emptied closed in absurd cc
    by_flag false opened = opened

open_by_stop : {T : Type 0} → (e : EndValue T) (cause : Cause) → IsTidy e → e.stop ≡ Some cause → is_closed e.state ≡ false
open_by_stop e cause tidy is = by_flag (is_closed e.state) refl
  where
    by_flag : (flag : Bool) → is_closed e.state ≡ flag → is_closed e.state ≡ false
    by_flag true closed = let none = tidy.stopped closed in absurd cc
    by_flag false opened = opened

stop_keeps : {T : Type 0} {I : EndValue T → Type 0} → Keeps I → (stop : Option Cause) (e : EndValue T) → e.stop ≡ stop → IsTidy e → I e → I (stop_taken stop e).1
stop_keeps k None e is tidy i = i
stop_keeps k (Some cause) e is tidy i = k.closes e cause (open_by_stop e cause tidy is) i

from_keeps : {T : Type 0} {I : EndValue T → Type 0} → Keeps I → KeepsAny I → (inbox : List Arrived) (e : EndValue T) → e.inbox ≡ inbox → IsTidy e → I e → I (taken_from inbox e).1
from_keeps k any [] e is tidy i = stop_keeps k e.stop e refl tidy i
from_keeps k any (arrived ∷ inbox) e is tidy i =
    judged_keeps k any arrived.number arrived.incoming (judged (said_in arrived.incoming.raw) (record e { inbox = inbox })) arrived inbox e is (open_by_inbox e arrived inbox tidy is) i

pub taken_keeps : {T : Type 0} {I : EndValue T → Type 0} → Keeps I → KeepsAny I → (e : EndValue T) → IsTidy e → I e → I (next_taken e).1
taken_keeps k any e tidy i = from_keeps k any e.inbox e refl tidy i

-- ---- What is held goes out

-- a command that goes out keeps it
abbrev pub KeepsOut : {T : Type 0} → (EndValue T → Type 0) → Type 0
KeepsOut {T} I = (e : EndValue T) (h : Held) (held : List Held) → e.held ≡ h ∷ held → is_closed e.state ≡ false → I e → I (sent_out h (record e { held = held }))

held_by : {T : Type 0} → (flag : Bool) (one other e : EndValue T) → one.held ≡ e.held → other.held ≡ e.held → (cond flag one other).held ≡ e.held
held_by true one other e is same = is
held_by false one other e is same = same

pub sent_held : {T : Type 0} → (h : Held) (e : EndValue T) → (sent_out h e).held ≡ e.held
sent_held h e = held_by h.is_redirect _ _ e refl refl

pub closed_by : {T : Type 0} → (flag : Bool) (one other e : EndValue T) → is_closed one.state ≡ false → is_closed other.state ≡ false → is_closed (cond flag one other).state ≡ false
closed_by true one other e is same = is
closed_by false one other e is same = same

pub sent_open : {T : Type 0} → (h : Held) (e : EndValue T) → is_closed e.state ≡ false → is_closed (sent_out h e).state ≡ false
sent_open h e opened = closed_by h.is_redirect _ _ e refl opened

pub either_keeps : {T : Type 0} → (I : EndValue T → Type 0) (flag : Bool) (one other : EndValue T) → I one → I other → I (cond flag one other)
either_keeps I true one other i j = i
either_keeps I false one other i j = j

out_keeps : {T : Type 0} {I : EndValue T → Type 0} → KeepsOut I → (held : List Held) (e : EndValue T) → e.held ≡ held → is_closed e.state ≡ false → I e → I (let_out held e)
out_keeps {I = I} out [] e is opened i = let P : List Held → Type 0 = λ held. I (record e { held = held }) in subst P is i
out_keeps {I = I} out (h ∷ held) e is opened i =
    let next = sent_out h (record e { held = held }) in
    let kept = out e h held is opened i in
    either_keeps I h.is_redirect next (let_out held next) kept
    (out_keeps out held next (sent_held h (record e { held = held })) (sent_open h (record e { held = held }) opened) kept)

released_by : {T : Type 0} {I : EndValue T → Type 0} → KeepsOut I → (flag : Bool) (e : EndValue T) → is_closed e.state ≡ false → I e → I (cond flag (let_out e.held e) e)
released_by out true e opened i = out_keeps out e.held e refl opened i
released_by out false e opened i = i

pub released_keeps : {T : Type 0} {I : EndValue T → Type 0} → KeepsOut I → (e : EndValue T) → is_closed e.state ≡ false → I e → I (released e)
released_keeps out e opened i = released_by out (is_free e) e opened i

-- an end that is greeted is still open
pub greeted_open : (state : EndState) (redirect : Option ℕ) → is_closed state ≡ false → is_closed (state_greeted state redirect) ≡ false
greeted_open Opening redirect opened = refl
greeted_open Live redirect opened = refl
greeted_open Reopening None opened = refl
greeted_open Reopening (Some token) opened = refl
greeted_open (Closed cause) redirect opened = opened
