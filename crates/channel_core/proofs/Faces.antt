-- What of an end tells what it received, and what a call that brings no bytes makes of it.
use Rattle.std.proofs.Common.{◌≡◌, ℕ, ℤ, ◌+◌, Bool, true, false, cond, ◌||◌, List, [], ◌∷◌, ◌++◌, length, map, Option, Some, None, is_some, refl, sym, ap, ◌∙◌, append-nil}
use Rattle.std.specs.Prelude.{slice_get, remove}
use Rattle.std.proofs.lemmas.Bool.{or_parts}
use Rattle.stream_escape.specs.Value.{UnescapeValue}
use Rattle.channel_core.specs.Closing.{closed_for, closed_own, is_closed}
use Rattle.channel_core.specs.EndValue.{EndValue}
use Rattle.channel_core.specs.Holding.{is_free, let_out, released, sent_out}
use Rattle.channel_core.specs.Laws.{listed}
use Rattle.channel_core.specs.Level.{is_due, leveled, level_of}
use Rattle.channel_core.specs.Receiving.{ended, is_over, with_last}
use Rattle.channel_core.specs.ReceivingLaws.{incoming_of}
use Rattle.channel_core.specs.Runs.{unless_refused}
use Rattle.channel_core.specs.Sending.{commanded, made, refusal_to}
use Rattle.channel_core.specs.Taking.{answered, finished, greeted, is_of, judged, next_taken, number_at, progressed, redirected, state_greeted, stop_taken, taken_as, taken_from}
use Rattle.channel_core.specs.Wire.{said_in}
use Rattle.channel_core.specs.declared.held.Arrived.{Arrived}
use Rattle.channel_core.specs.declared.held.Held.{Held}
use Rattle.channel_core.specs.declared.held.Incoming.{Incoming}
use Rattle.channel_core.specs.declared.sending.SendRefusal.{SendRefusal}
use Rattle.channel_core.specs.declared.states.Cause.{Cause}
use Rattle.channel_core.specs.declared.states.Cause.TheVariants.{Own, Eos, Ended, Protocol, Stream}
use Rattle.channel_core.specs.declared.states.EndState.{EndState}
use Rattle.channel_core.specs.declared.states.EndState.TheVariants.{Opening, Live, Reopening, Closed as IsClosed}
use Rattle.channel_core.specs.declared.states.Reason.TheVariants.{Grammar, Early, Token}
use Rattle.channel_core.specs.Judged.{Judged, TooEarly, Stray, Greets, Tells, Asks, GoesOn, Answers}
use Rattle.channel_core.specs.declared.taking.Taken.{Taken}
use Rattle.channel_core.specs.declared.taking.Taken.TheVariants.{Hello, Command, Event, Progress, Final, Closed}
use Rattle.channel_core.proofs.Keeping.{IsTidy, open_by_inbox}
use Rattle.channel_core.proofs.Tidy.{accepted_open}

pub record Face : Type 0 where
  pub waiting : List Incoming
  pub stop : Option Cause
  pub told : ℤ
  pub stream : UnescapeValue
  pub closed : Option Cause

abbrev pub cause_of : EndState → Option Cause
cause_of Opening = None
cause_of Live = None
cause_of Reopening = None
cause_of (IsClosed cause) = Some cause

abbrev pub face : {T : Type 0} → EndValue T → Face
face e = record { waiting = map (λ a. a.incoming) e.inbox; stop = e.stop; told = e.told; stream = e.stream; closed = cause_of e.state }

abbrev pub closed_face : Cause → Face → Face
closed_face cause f = record f { waiting = []; stop = None; closed = Some cause }

pub closed_is : (state : EndState) → is_closed state ≡ is_some (cause_of state)
closed_is Opening = refl
closed_is Live = refl
closed_is Reopening = refl
closed_is (IsClosed cause) = refl

pub open_cause : (state : EndState) → is_closed state ≡ false → cause_of state ≡ None
open_cause Opening opened = refl
open_cause Live opened = refl
open_cause Reopening opened = refl
open_cause (IsClosed cause) opened = absurd cc

pub cause_closed : (state : EndState) (cause : Cause) → state ≡ IsClosed cause → cause_of state ≡ Some cause
cause_closed state cause is = ap cause_of is

abbrev pub is_finished : Face → Bool
is_finished f = is_some f.closed || is_some f.stop

pub over_is : {T : Type 0} → (e : EndValue T) → is_over e ≡ is_finished (face e)
over_is e = ap (λ b. b || is_some e.stop) (closed_is e.state)

-- ---- Steps that change nothing of it

pub face_either : {T : Type 0} → (flag : Bool) (one other : EndValue T) (f : Face) → face one ≡ f → face other ≡ f → face (cond flag one other) ≡ f
face_either true one other f is same = is
face_either false one other f is same = same

pub face_level : {T : Type 0} → (e : EndValue T) → face (leveled e) ≡ face e
face_level e = face_either (is_due e.is_loud (level_of (length e.inbox))) _ e (face e) refl refl

face_state : {T : Type 0} → (e : EndValue T) (state : EndState) (redirect : Option ℕ) → cause_of state ≡ cause_of e.state → face (record e { state = state; redirect = redirect }) ≡ face e
face_state e state redirect is = ap (λ c. record (face e) { closed = c }) is

face_out : {T : Type 0} → (h : Held) (e : EndValue T) → cause_of e.state ≡ None → face (sent_out h e) ≡ face e
face_out h e opened = face_either h.is_redirect _ _ (face e) (ap (λ c. record (face e) { closed = c }) (sym opened)) refl

face_let_out : {T : Type 0} → (held : List Held) (e : EndValue T) → cause_of e.state ≡ None → face (let_out held e) ≡ face e
face_let_out [] e opened = refl
face_let_out (h ∷ held) e opened =
    let next = sent_out h (record e { held = held }) in
    let first : face next ≡ face e = face_out h (record e { held = held }) opened in
    face_either h.is_redirect next (let_out held next) (face e) first
    (face_let_out held next (ap (λ (f : Face). f.closed) first ∙ opened) ∙ first)

pub face_released : {T : Type 0} → (e : EndValue T) → cause_of e.state ≡ None → face (released e) ≡ face e
face_released e opened = face_either (is_free e) _ e (face e) (face_let_out e.held e opened) refl

greeted_cause : (state : EndState) (redirect : Option ℕ) → cause_of (state_greeted state redirect) ≡ cause_of state
greeted_cause Opening redirect = refl
greeted_cause Live redirect = refl
greeted_cause Reopening None = refl
greeted_cause Reopening (Some token) = refl
greeted_cause (IsClosed cause) redirect = refl

face_greeted : {T : Type 0} → (e : EndValue T) → cause_of e.state ≡ None → face (greeted e) ≡ face e
face_greeted e opened =
    let next = record e { state = state_greeted e.state e.redirect } in
    let same = greeted_cause e.state e.redirect in
    face_released next (same ∙ opened) ∙ face_state e (state_greeted e.state e.redirect) e.redirect same

face_redirected : {T : Type 0} → (done : Bool) (e : EndValue T) → cause_of e.state ≡ None → face (redirected done e) ≡ face e
face_redirected true e opened = refl
face_redirected false e opened = face_released (record e { redirect = None; state = Live }) refl ∙ face_state e Live None (sym opened)

face_answered : {T : Type 0} → (token : ℕ) (done : Bool) (e : EndValue T) → cause_of e.state ≡ None → face (answered token done e) ≡ face e
face_answered token done e opened = face_either (is_of token e.redirect) _ e (face e) (face_redirected done e opened) refl

pub face_commanded : {T : Type 0} → (refusal : Option SendRefusal) (service name body : List ℕ) (tag : T) (mark : Option ℕ) (e : EndValue T) → refusal_to service name body e ≡ refusal
    → face (unless_refused refusal e (commanded service name body tag mark e)) ≡ face e
face_commanded (Some why) service name body tag mark e is = refl
face_commanded None service name body tag mark e is =
    let h = made (e.last + 1) service name body mark in
    let opened = open_cause e.state (accepted_open (length service + length name + length body) e is) in
    face_either (is_free e) (sent_out h e) (record e { held = e.held ++ h ∷ [] }) (face e) (face_out h e opened) refl

-- ---- What a call without bytes does

-- a cause that says nothing of the bytes
abbrev pub IsOfItself : Cause → Type 0
IsOfItself Own = Unit {0}
IsOfItself Eos = ⊥
IsOfItself Ended = ⊥
IsOfItself (Protocol message (Grammar fault)) = ⊥
IsOfItself (Protocol message Early) = Unit {0}
IsOfItself (Protocol message Token) = Unit {0}
IsOfItself (Stream fault) = ⊥

pub data Change {T : Type 0} (taken : List (Taken T)) (f : Face) (after : List (Taken T)) (g : Face) : Type 0 where
  stays : after ≡ taken → g ≡ f → Change taken f after g
  ends : f.stop ≡ None → f.closed ≡ None → after ≡ taken → g ≡ record f { stop = Some Ended } → Change taken f after g
  takes : (t : Taken T) (incoming : Incoming) (waiting : List Incoming) → f.waiting ≡ incoming ∷ waiting → incoming_of t ≡ incoming ∷ [] → after ≡ taken ++ t ∷ [] → g ≡ record f { waiting = waiting }
      → Change taken f after g
  closes : (cause : Cause) → f.closed ≡ None → IsOfItself cause → after ≡ taken → g ≡ closed_face cause f → Change taken f after g
  breaks : (cause : Cause) → f.closed ≡ None → IsOfItself cause → after ≡ taken ++ Closed cause ∷ [] → g ≡ closed_face cause f → Change taken f after g
  finishes : (cause : Cause) → f.closed ≡ None → f.waiting ≡ [] → f.stop ≡ Some cause → after ≡ taken ++ Closed cause ∷ [] → g ≡ closed_face cause f → Change taken f after g

-- ---- taking

progressed_change : {T : Type 0} → (taken : List (Taken T)) (number : ℕ) (incoming : Incoming) (token : Option ℕ) (inbox : List Arrived) (e : EndValue T) → cause_of e.state ≡ None
    → map (λ a. a.incoming) e.inbox ≡ incoming ∷ map (λ a. a.incoming) inbox
    → Change taken (face e) (taken ++ listed (progressed number incoming token (record e { inbox = inbox })).0) (face (progressed number incoming token (record e { inbox = inbox })).1)
progressed_change taken number incoming None inbox e opened is = breaks (Protocol number Token) opened tt refl refl
progressed_change taken number incoming (Some token) inbox e opened is =
    takes (Progress token incoming) incoming (map (λ a. a.incoming) inbox) is refl refl (face_level (record e { inbox = inbox }))

finished_change : {T : Type 0} → (taken : List (Taken T)) (number : ℕ) (incoming : Incoming) (place : ℕ) (done : Bool) (row : Option (ℕ × T)) (inbox : List Arrived) (e : EndValue T) → cause_of e.state ≡ None
    → map (λ a. a.incoming) e.inbox ≡ incoming ∷ map (λ a. a.incoming) inbox
    → Change taken (face e) (taken ++ listed (finished number incoming place done row (record e { inbox = inbox })).0) (face (finished number incoming place done row (record e { inbox = inbox })).1)
finished_change taken number incoming place done None inbox e opened is = breaks (Protocol number Token) opened tt refl refl
finished_change taken number incoming place done (Some row) inbox e opened is =
    let left = record e { inbox = inbox; pending = remove e.pending place } in
    let level = face_level left in
    takes (Final row.1 incoming) incoming (map (λ a. a.incoming) inbox) is refl refl
    (face_answered row.0 done (leveled left) (ap (λ (f : Face). f.closed) level ∙ opened) ∙ level)

judged_change : {T : Type 0} → (taken : List (Taken T)) (number : ℕ) (incoming : Incoming) (judged : Judged) (inbox : List Arrived) (e : EndValue T) → cause_of e.state ≡ None
    → map (λ a. a.incoming) e.inbox ≡ incoming ∷ map (λ a. a.incoming) inbox
    → Change taken (face e) (taken ++ listed (taken_as number incoming judged (record e { inbox = inbox })).0) (face (taken_as number incoming judged (record e { inbox = inbox })).1)
judged_change taken number incoming TooEarly inbox e opened is = breaks (Protocol number Early) opened tt refl refl
judged_change taken number incoming Stray inbox e opened is = breaks (Protocol number Token) opened tt refl refl
judged_change taken number incoming Greets inbox e opened is =
    let left = record e { inbox = inbox } in
    let level = face_level left in
    takes (Hello incoming) incoming (map (λ a. a.incoming) inbox) is refl refl (face_greeted (leveled left) (ap (λ (f : Face). f.closed) level ∙ opened) ∙ level)
judged_change taken number incoming Tells inbox e opened is = takes (Event incoming) incoming (map (λ a. a.incoming) inbox) is refl refl (face_level (record e { inbox = inbox }))
judged_change taken number incoming Asks inbox e opened is = takes (Command incoming) incoming (map (λ a. a.incoming) inbox) is refl refl (face_level (record e { inbox = inbox }))
judged_change taken number incoming (GoesOn place) inbox e opened is = progressed_change taken number incoming (number_at place e.pending) inbox e opened is
judged_change taken number incoming (Answers place done) inbox e opened is = finished_change taken number incoming place done (slice_get e.pending place) inbox e opened is

open_by_stop : {T : Type 0} → (e : EndValue T) (cause : Cause) → IsTidy e → e.stop ≡ Some cause → is_closed e.state ≡ false
open_by_stop e cause tidy is = by_flag (is_closed e.state) refl
  where
    by_flag : (flag : Bool) → is_closed e.state ≡ flag → is_closed e.state ≡ false
    by_flag true closed = let none = tidy.stopped closed in absurd cc
    by_flag false opened = opened

stop_change : {T : Type 0} → (taken : List (Taken T)) (stop : Option Cause) (e : EndValue T) → e.stop ≡ stop → e.inbox ≡ [] → IsTidy e
    → Change taken (face e) (taken ++ listed (stop_taken stop e).0) (face (stop_taken stop e).1)
stop_change taken None e is none tidy = stays (append-nil taken) refl
stop_change taken (Some cause) e is none tidy =
    finishes cause (open_cause e.state (open_by_stop e cause tidy is)) (ap (map (λ a. a.incoming)) none) is refl refl

from_change : {T : Type 0} → (taken : List (Taken T)) (inbox : List Arrived) (e : EndValue T) → e.inbox ≡ inbox → IsTidy e
    → Change taken (face e) (taken ++ listed (taken_from inbox e).0) (face (taken_from inbox e).1)
from_change taken [] e is tidy = stop_change taken e.stop e refl is tidy
from_change taken (arrived ∷ inbox) e is tidy =
    judged_change taken arrived.number arrived.incoming (judged (said_in arrived.incoming.raw) (record e { inbox = inbox })) inbox e
    (open_cause e.state (open_by_inbox e arrived inbox tidy is)) (ap (map (λ a. a.incoming)) is)

pub taken_change : {T : Type 0} → (taken : List (Taken T)) (e : EndValue T) → IsTidy e → Change taken (face e) (taken ++ listed (next_taken e).0) (face (next_taken e).1)
taken_change taken e tidy = from_change taken e.inbox e refl tidy

-- ---- the other calls

none_of : {A : Type 0} → (o : Option A) → is_some o ≡ false → o ≡ None
none_of None is = refl
none_of (Some x) is = absurd cc

ended_by : {T : Type 0} → (taken : List (Taken T)) (flag : Bool) (e : EndValue T) → is_over e ≡ flag → Change taken (face e) taken (face (cond flag e (with_last Ended e)))
ended_by taken true e over = stays refl refl
ended_by taken false e over =
    let parts = or_parts (is_closed e.state) (is_some e.stop) over in
    ends (none_of e.stop parts.1) (open_cause e.state parts.0) refl refl

pub ended_change : {T : Type 0} → (taken : List (Taken T)) (e : EndValue T) → Change taken (face e) taken (face (ended e))
ended_change taken e = ended_by taken (is_over e) e refl

own_by : {T : Type 0} → (taken : List (Taken T)) (flag : Bool) (e : EndValue T) → is_closed e.state ≡ flag → Change taken (face e) taken (face (cond flag e (closed_for Own e)))
own_by taken true e is = stays refl refl
own_by taken false e is = closes Own (open_cause e.state is) tt refl refl

pub closed_change : {T : Type 0} → (taken : List (Taken T)) (e : EndValue T) → Change taken (face e) taken (face (closed_own e))
closed_change taken e = own_by taken (is_closed e.state) e refl
