-- One entry is taken from the inbox.
use Rattle.std.specs.Prelude.{ℕ, ◌==◌, Bool, true, false, if◌then◌else◌, List, [], ◌∷◌, decimal, bytes_eq, position, remove, slice_get, Option, Some, None, option_map}
use Rattle.std.specs.List.{list_any}
use Rattle.channel_core.specs.Closing.{closed_for}
use Rattle.channel_core.specs.EndValue.{EndValue}
use Rattle.channel_core.specs.Holding.{released}
use Rattle.channel_core.specs.Judged.{Judged, TooEarly, Stray, Greets, Tells, Asks, GoesOn, Answers}
use Rattle.channel_core.specs.Level.{leveled}
use Rattle.channel_core.specs.Wire.{Said, greets, tells, asks, goes_on, answers, said_in}
use Rattle.channel_core.specs.declared.held.Arrived.{Arrived}
use Rattle.channel_core.specs.declared.held.Held.{Held}
use Rattle.channel_core.specs.declared.held.Incoming.{Incoming}
use Rattle.channel_core.specs.declared.states.Cause.{Cause}
use Rattle.channel_core.specs.declared.states.Cause.TheVariants.{Protocol}
use Rattle.channel_core.specs.declared.states.EndState.{EndState}
use Rattle.channel_core.specs.declared.states.EndState.TheVariants.{Opening, Live, Reopening, Closed as IsClosed}
use Rattle.channel_core.specs.declared.states.Reason.{Reason}
use Rattle.channel_core.specs.declared.states.Reason.TheVariants.{Early, Token}
use Rattle.channel_core.specs.declared.taking.Taken.{Taken}
use Rattle.channel_core.specs.declared.taking.Taken.TheVariants.{Hello, Command, Event, Progress, Final, Closed}

-- ---- the pending command that a token names, by its place in the list

abbrev pub place_of : {T : Type 0} → List ℕ → List (ℕ × T) → Option ℕ
place_of token pending = position (λ row. bytes_eq token (decimal row.0)) pending

abbrev pub is_held : ℕ → List Held → Bool
is_held token held = list_any (λ h. h.token == token) held

abbrev pub unless_held : {T : Type 0} → ℕ → Option (ℕ × T) → List Held → Option ℕ
unless_held place None held = None
unless_held place (Some row) held = if is_held row.0 held then None else Some place

abbrev pub sent_at : {T : Type 0} → Option ℕ → List (ℕ × T) → List Held → Option ℕ
sent_at None pending held = None
sent_at (Some place) pending held = unless_held place (slice_get pending place) held

-- its place, where it is pending and was sent
abbrev pub sent_place : {T : Type 0} → List ℕ → EndValue T → Option ℕ
sent_place token e = sent_at (place_of token e.pending) e.pending e.held

-- ---- what a Hello and an answer make of the end

abbrev pub state_greeted : EndState → Option ℕ → EndState
state_greeted Opening redirect = Live
state_greeted Live redirect = Live
state_greeted Reopening None = Live
state_greeted Reopening (Some token) = Reopening
state_greeted (IsClosed cause) redirect = IsClosed cause

abbrev pub greeted : {T : Type 0} → EndValue T → EndValue T
greeted e = released (record e { state = state_greeted e.state e.redirect })

-- the final answer to a redirect: where it isn't done, the end is Live again
abbrev pub redirected : {T : Type 0} → Bool → EndValue T → EndValue T
redirected true e = record e { redirect = None }
redirected false e = released (record e { redirect = None; state = Live })

abbrev pub is_of : ℕ → Option ℕ → Bool
is_of token None = false
is_of token (Some redirect) = redirect == token

abbrev pub answered : {T : Type 0} → ℕ → Bool → EndValue T → EndValue T
answered token done e = if is_of token e.redirect then redirected done e else e

-- ---- what a message is to this end: before the Hello nothing else may come

abbrev pub is_early : EndState → Said → Bool
is_early Opening greets = false
is_early Opening tells = true
is_early Opening asks = true
is_early Opening (goes_on token) = true
is_early Opening (answers token done) = true
is_early Live said = false
is_early Reopening said = false
is_early (IsClosed cause) said = false

abbrev pub progress_judged : Option ℕ → Judged
progress_judged None = Stray
progress_judged (Some place) = GoesOn place

abbrev pub answer_judged : Bool → Option ℕ → Judged
answer_judged done None = Stray
answer_judged done (Some place) = Answers place done

abbrev pub judged_by : {T : Type 0} → Said → EndValue T → Judged
judged_by greets e = Greets
judged_by tells e = Tells
judged_by asks e = Asks
judged_by (goes_on token) e = progress_judged (sent_place token e)
judged_by (answers token done) e = answer_judged done (sent_place token e)

abbrev pub judged : {T : Type 0} → Said → EndValue T → Judged
judged said e = if is_early e.state said then TooEarly else judged_by said e

-- ---- and what becomes of it

abbrev pub broken : {T : Type 0} → ℕ → Reason → EndValue T → Option (Taken T) × EndValue T
broken number reason e = let cause = Protocol number reason in (Some (Closed cause), closed_for cause e)

abbrev pub number_at : {T : Type 0} → ℕ → List (ℕ × T) → Option ℕ
number_at place pending = option_map (λ row. row.0) (slice_get pending place)

abbrev pub progressed : {T : Type 0} → ℕ → Incoming → Option ℕ → EndValue T → Option (Taken T) × EndValue T
progressed number incoming None e = broken number Token e
progressed number incoming (Some token) e = (Some (Progress token incoming), leveled e)

-- the command leaves the pending ones
abbrev pub finished : {T : Type 0} → ℕ → Incoming → ℕ → Bool → Option (ℕ × T) → EndValue T → Option (Taken T) × EndValue T
finished number incoming place done None e = broken number Token e
finished number incoming place done (Some row) e =
    (Some (Final row.1 incoming), answered row.0 done (leveled (record e { pending = remove e.pending place })))

abbrev pub taken_as : {T : Type 0} → ℕ → Incoming → Judged → EndValue T → Option (Taken T) × EndValue T
taken_as number incoming TooEarly e = broken number Early e
taken_as number incoming Stray e = broken number Token e
taken_as number incoming Greets e = (Some (Hello incoming), greeted (leveled e))
taken_as number incoming Tells e = (Some (Event incoming), leveled e)
taken_as number incoming Asks e = (Some (Command incoming), leveled e)
taken_as number incoming (GoesOn place) e = progressed number incoming (number_at place e.pending) e
taken_as number incoming (Answers place done) e = finished number incoming place done (slice_get e.pending place) e

abbrev pub message_taken : {T : Type 0} → ℕ → Incoming → Said → EndValue T → Option (Taken T) × EndValue T
message_taken number incoming said e = taken_as number incoming (judged said e) e

abbrev pub stop_taken : {T : Type 0} → Option Cause → EndValue T → Option (Taken T) × EndValue T
stop_taken None e = (None, e)
stop_taken (Some cause) e = (Some (Closed cause), closed_for cause e)

-- the oldest message, then the last entry; nothing where there is neither
abbrev pub taken_from : {T : Type 0} → List Arrived → EndValue T → Option (Taken T) × EndValue T
taken_from [] e = stop_taken e.stop e
taken_from (arrived ∷ inbox) e = message_taken arrived.number arrived.incoming (said_in arrived.incoming.raw) (record e { inbox = inbox })

abbrev pub next_taken : {T : Type 0} → EndValue T → Option (Taken T) × EndValue T
next_taken e = taken_from e.inbox e

-- the end closes with what is taken
abbrev pub closes : {T : Type 0} → Option (Taken T) → Bool
closes None = false
closes (Some (Hello incoming)) = false
closes (Some (Command incoming)) = false
closes (Some (Event incoming)) = false
closes (Some (Progress token incoming)) = false
closes (Some (Final tag incoming)) = false
closes (Some (Closed cause)) = true
