-- An entry is taken from the inbox: it closes the end only for the cause of its last entry, or for a message that is faulty.
use Rattle.std.proofs.Common.{◌≡◌, ℕ, Bool, true, false, List, [], ◌∷◌, Option, Some, None, refl, sym, ap, subst}
use Rattle.std.specs.Prelude.{option_map, remove, slice_get}
use Rattle.std.specs.List.{AllByRecursion, flat_map}
use Rattle.channel_core.specs.Closing.{closed_for}
use Rattle.channel_core.specs.EndValue.{EndValue}
use Rattle.channel_core.specs.Holding.{released}
use Rattle.channel_core.specs.Laws.{listed}
use Rattle.channel_core.specs.Level.{leveled}
use Rattle.channel_core.specs.ReceivingLaws.{incoming_of}
use Rattle.channel_core.specs.Taking.{answered, broken, finished, greeted, is_of, judged, number_at, progressed, redirected, state_greeted, stop_taken, taken_as, taken_from}
use Rattle.channel_core.specs.Wire.{Said, said_in}
use Rattle.channel_core.specs.declared.held.Arrived.{Arrived}
use Rattle.channel_core.specs.declared.held.Incoming.{Incoming}
use Rattle.channel_core.specs.declared.states.Cause.{Cause}
use Rattle.channel_core.specs.declared.states.Cause.TheVariants.{Protocol}
use Rattle.channel_core.specs.declared.states.EndState.{EndState}
use Rattle.channel_core.specs.declared.states.EndState.TheVariants.{Closed as IsClosed, Live, Opening, Reopening}
use Rattle.channel_core.specs.declared.states.Reason.{Reason}
use Rattle.channel_core.specs.declared.states.Reason.TheVariants.{Early, Grammar, Token}
use Rattle.channel_core.specs.Judged.{Judged, Answers, Asks, GoesOn, Greets, Stray, Tells, TooEarly}
use Rattle.channel_core.specs.declared.taking.Taken.{Taken}
use Rattle.channel_core.specs.declared.taking.Taken.TheVariants.{Closed, Command, Event, Final, Hello, Progress}
use Rattle.channel_laws.proofs.Faults.Following.{Follows, StateIs, StopIs, after, alike, either, level, opened, release}
use Rattle.channel_laws.proofs.Faults.Judging.{IsAt, IsFaulty, JudgedSo, judged_so}

-- the cause of a closing that was taken is fine
abbrev pub TakenIs : {T : Type 0} → (Cause → Type 0) → Taken T → Type 0
TakenIs Fine (Hello incoming) = Unit {0}
TakenIs Fine (Command incoming) = Unit {0}
TakenIs Fine (Event incoming) = Unit {0}
TakenIs Fine (Progress token incoming) = Unit {0}
TakenIs Fine (Final tag incoming) = Unit {0}
TakenIs Fine (Closed cause) = Fine cause

-- an end, and what was taken from it last; where it is still opening, that is no message
pub record IsNext {T : Type 0} (Fine : Cause → Type 0) (e : EndValue T) (next : Option (Taken T) × EndValue T) : Type 0 where
  pub taken : AllByRecursion (TakenIs Fine) (listed next.0)
  pub stop : StopIs Fine next.1.stop
  pub state : StateIs Fine next.1.state
  pub opening : next.1.state ≡ Opening → (e.state ≡ Opening) × (flat_map incoming_of (listed next.0) ≡ [])

-- it has fine causes
pub record IsFine {T : Type 0} (Fine : Cause → Type 0) (e : EndValue T) : Type 0 where
  pub stop : StopIs Fine e.stop
  pub state : StateIs Fine e.state

-- a message is taken, and the end doesn't close
goes : {T : Type 0} → (Fine : Cause → Type 0) (e next : EndValue T) (t : Taken T) → TakenIs Fine t → IsFine Fine e → Follows Fine e next → (next.state ≡ Opening → ⊥) → IsNext Fine e (Some t, next)
goes Fine e next t fine f follows none = record { taken = (fine, tt); stop = follows.stop f.stop; state = follows.state f.state; opening = λ is. absurd (none is) }

-- it closes for a fine cause
shut : {T : Type 0} → (Fine : Cause → Type 0) (cause : Cause) (e : EndValue T) → Fine cause → IsNext Fine e (Some (Closed cause), closed_for cause e)
shut Fine cause e fine = record { taken = (fine, tt); stop = tt; state = fine; opening = λ is. absurd cc }

-- ---- A Hello

never_opening : (state : EndState) (redirect : Option ℕ) → state_greeted state redirect ≡ Opening → ⊥
never_opening Opening redirect is = absurd cc
never_opening Live redirect is = absurd cc
never_opening Reopening None is = absurd cc
never_opening Reopening (Some token) is = absurd cc
never_opening (IsClosed cause) redirect is = absurd cc

greeted_fine : (Fine : Cause → Type 0) (state : EndState) (redirect : Option ℕ) → StateIs Fine state → StateIs Fine (state_greeted state redirect)
greeted_fine Fine Opening redirect s = tt
greeted_fine Fine Live redirect s = tt
greeted_fine Fine Reopening None s = tt
greeted_fine Fine Reopening (Some token) s = tt
greeted_fine Fine (IsClosed cause) redirect s = s

greets_next : {T : Type 0} → (Fine : Cause → Type 0) (incoming : Incoming) (e : EndValue T) → IsFine Fine e → IsNext Fine e (Some (Hello incoming), greeted (leveled e))
greets_next Fine incoming e f =
    let told = leveled e in
    let same = level Fine e in
    let next = record told { state = state_greeted told.state told.redirect } in
    let free = release Fine next in
    record {
      taken = (tt, tt);
      stop = free.stop (same.stop f.stop);
      state = free.state (greeted_fine Fine told.state told.redirect (same.state f.state));
      opening = λ is. absurd (never_opening told.state told.redirect (free.opening is));
    }

-- ---- A final answer

redirect_follows : {T : Type 0} → (Fine : Cause → Type 0) (done : Bool) (e : EndValue T) → Follows Fine e (redirected done e)
redirect_follows Fine true e = alike Fine e (record e { redirect = None }) refl refl
redirect_follows Fine false e =
    let next = record e { redirect = None; state = Live } in
    after Fine e next (released next) (opened Fine e next refl tt (λ is. absurd cc)) (release Fine next)

answer_follows : {T : Type 0} → (Fine : Cause → Type 0) (token : ℕ) (done : Bool) (e : EndValue T) → Follows Fine e (answered token done e)
answer_follows Fine token done e = either Fine (is_of token e.redirect) e (redirected done e) e (redirect_follows Fine done e) (alike Fine e e refl refl)

finished_next : {T : Type 0} → (Fine : Cause → Type 0) (number : ℕ) (incoming : Incoming) (place : ℕ) (done : Bool) (row : Option (ℕ × T)) (e : EndValue T) → slice_get e.pending place ≡ row → IsAt place e
    → IsFine Fine e → IsNext Fine e (finished number incoming place done row e)
finished_next Fine number incoming place done None e is at f = let some = at.row_is in absurd cc
finished_next Fine number incoming place done (Some row) e is at f =
    let left = record e { pending = remove e.pending place } in
    let last = answered row.0 done (leveled left) in
    let follows = after Fine e (leveled left) last (after Fine e left (leveled left) (alike Fine e left refl refl) (level Fine left)) (answer_follows Fine row.0 done (leveled left)) in
    goes Fine e last (Final row.1 incoming) tt f follows (λ opening. at.greeted (follows.opening opening))

-- ---- Every message

progressed_next : {T : Type 0} → (Fine : Cause → Type 0) (number : ℕ) (incoming : Incoming) (place : ℕ) (row : Option (ℕ × T)) (e : EndValue T) → slice_get e.pending place ≡ row → IsAt place e
    → IsFine Fine e → IsNext Fine e (progressed number incoming (number_at place e.pending) e)
progressed_next Fine number incoming place None e is at f = let some = at.row_is in absurd cc
progressed_next {T = T} Fine number incoming place (Some row) e is at f =
    let P : Option ℕ → Type 0 = λ token. IsNext Fine e (progressed number incoming token e) in
    let told = level Fine e in
    let named : number_at place e.pending ≡ Some row.0 = ap (λ (r : Option (ℕ × T)). option_map (λ x. x.0) r) is in
    subst P (sym named) (goes Fine e (leveled e) (Progress row.0 incoming) tt f told (λ opening. at.greeted (told.opening opening)))

judged_next : {T : Type 0} → (Fine : Cause → Type 0) (number : ℕ) (incoming : Incoming) (message : Said) (what : Judged) (e : EndValue T) → JudgedSo what message e
    → ((reason : Reason) → IsFaulty reason message e → taken_as number incoming what e ≡ broken number reason e → Fine (Protocol number reason))
    → IsFine Fine e → IsNext Fine e (taken_as number incoming what e)
judged_next Fine number incoming message TooEarly e so may f = shut Fine (Protocol number Early) e (may Early so refl)
judged_next Fine number incoming message Stray e so may f = shut Fine (Protocol number Token) e (may Token so refl)
judged_next Fine number incoming message Greets e so may f = greets_next Fine incoming e f
judged_next Fine number incoming message Tells e so may f = let told = level Fine e in goes Fine e (leveled e) (Event incoming) tt f told (λ opening. so (told.opening opening))
judged_next Fine number incoming message Asks e so may f = let told = level Fine e in goes Fine e (leveled e) (Command incoming) tt f told (λ opening. so (told.opening opening))
judged_next Fine number incoming message (GoesOn place) e so may f = progressed_next Fine number incoming place (slice_get e.pending place) e refl so f
judged_next Fine number incoming message (Answers place done) e so may f = finished_next Fine number incoming place done (slice_get e.pending place) e refl so f

stop_next : {T : Type 0} → (Fine : Cause → Type 0) (stop : Option Cause) (e : EndValue T) → StopIs Fine stop → IsFine Fine e → IsNext Fine e (stop_taken stop e)
stop_next Fine None e fine f = record { taken = tt; stop = f.stop; state = f.state; opening = λ is. (is, refl) }
stop_next Fine (Some cause) e fine f = shut Fine cause e fine

-- the first message of the inbox may close the end: that is fine
abbrev pub MayTake : {T : Type 0} → (Cause → Type 0) → List Arrived → EndValue T → Type 0
MayTake Fine inbox e = (number : ℕ) (reason : Reason) (arrived : Arrived) (left : List Arrived) → inbox ≡ arrived ∷ left → IsFaulty reason (said_in arrived.incoming.raw) e
    → taken_from inbox e ≡ broken number reason (record e { inbox = left }) → Fine (Protocol number reason)

pub taken_next : {T : Type 0} → (Fine : Cause → Type 0) (inbox : List Arrived) (e : EndValue T) → MayTake Fine inbox e → IsFine Fine e → IsNext Fine e (taken_from inbox e)
taken_next Fine [] e may f = stop_next Fine e.stop e f.stop f
taken_next Fine (arrived ∷ left) e may f =
    let next = record e { inbox = left } in
    let message = said_in arrived.incoming.raw in
    let n = judged_next Fine arrived.number arrived.incoming message (judged message next) next (judged_so message next)
    (λ reason faulty is. may arrived.number reason arrived left refl (unlisted reason faulty) is) (record { stop = f.stop; state = f.state }) in
    record { taken = n.taken; stop = n.stop; state = n.state; opening = n.opening }
  where
    unlisted : (reason : Reason) → IsFaulty reason (said_in arrived.incoming.raw) (record e { inbox = left }) → IsFaulty reason (said_in arrived.incoming.raw) e
    unlisted (Grammar fault) faulty = faulty
    unlisted Early faulty = faulty
    unlisted Token faulty = faulty
