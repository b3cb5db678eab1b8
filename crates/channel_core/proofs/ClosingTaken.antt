-- An end is closed by what closes it.
use Rattle.std.proofs.Common.{◌≡◌, ℕ, Bool, true, List, [], ◌∷◌, Option, Some, None, Result, Ok, Err, refl, sym, ap, ◌∙◌}
use Rattle.std.specs.Prelude.{IfOk, slice_get}
use Rattle.std.proofs.lemmas.Bool.{false≢true}
use Rattle.channel_core.specs.EndValue.{EndValue}
use Rattle.channel_core.specs.Closing.{is_closed}
use Rattle.channel_core.specs.Taking.{closes, finished, judged, next_taken, number_at, progressed, stop_taken, taken_as, taken_from}
use Rattle.channel_core.specs.Wire.{said_in}
use Rattle.channel_core.specs.declared.held.Arrived.{Arrived}
use Rattle.channel_core.specs.declared.held.Incoming.{Incoming}
use Rattle.channel_core.specs.declared.states.Cause.{Cause}
use Rattle.channel_core.specs.Judged.{Judged, TooEarly, Stray, Greets, Tells, Asks, GoesOn, Answers}
use Rattle.channel_core.specs.declared.taking.Taken.{Taken}

abbrev IsClosedBy : {T : Type 0} → Option (Taken T) × EndValue T → Type 0
IsClosedBy p = closes p.0 ≡ true → is_closed p.1.state ≡ true

progress_closes : {T : Type 0} → (number : ℕ) (incoming : Incoming) (token : Option ℕ) (e : EndValue T) → IsClosedBy (progressed number incoming token e)
progress_closes number incoming None e h = refl
progress_closes number incoming (Some token) e h = absurd (false≢true h)

final_closes : {T : Type 0} → (number : ℕ) (incoming : Incoming) (place : ℕ) (done : Bool) (row : Option (ℕ × T)) (e : EndValue T) → IsClosedBy (finished number incoming place done row e)
final_closes number incoming place done None e h = refl
final_closes number incoming place done (Some row) e h = absurd (false≢true h)

as_closes : {T : Type 0} → (number : ℕ) (incoming : Incoming) (what : Judged) (e : EndValue T) → IsClosedBy (taken_as number incoming what e)
as_closes number incoming TooEarly e h = refl
as_closes number incoming Stray e h = refl
as_closes number incoming Greets e h = absurd (false≢true h)
as_closes number incoming Tells e h = absurd (false≢true h)
as_closes number incoming Asks e h = absurd (false≢true h)
as_closes number incoming (GoesOn place) e h = progress_closes number incoming (number_at place e.pending) e h
as_closes number incoming (Answers place done) e h = final_closes number incoming place done (slice_get e.pending place) e h

stop_closes : {T : Type 0} → (stop : Option Cause) (e : EndValue T) → IsClosedBy (stop_taken stop e)
stop_closes None e h = absurd (false≢true h)
stop_closes (Some cause) e h = refl

from_closes : {T : Type 0} → (inbox : List Arrived) (e : EndValue T) → IsClosedBy (taken_from inbox e)
from_closes [] e h = stop_closes e.stop e h
from_closes (arrived ∷ inbox) e h =
    let left = record e { inbox = inbox } in
    as_closes arrived.number arrived.incoming (judged (said_in arrived.incoming.raw) left) left h

pub next_closes : {T : Type 0} → (e : EndValue T) → closes (next_taken e).0 ≡ true → is_closed (next_taken e).1.state ≡ true
next_closes e h = from_closes e.inbox e h

-- the same of an answer, which may be want of memory
pub when_it_closes : {T E : Type 0} → (answer : Result (Option (Taken T)) E) (e next : EndValue T) → IfOk answer (λ what. (what, next) ≡ next_taken e)
    → IfOk answer (λ what. closes what ≡ true → is_closed next.state ≡ true)
when_it_closes (Ok what) e next is = λ h. ap (λ t. is_closed t.1.state) is ∙ next_closes e (ap (λ t. closes t.0) (sym is) ∙ h)
when_it_closes (Err error) e next is = tt
