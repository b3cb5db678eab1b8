-- How an end closes, and what can be done with it then.
use Rattle.std.specs.Prelude.{ℕ, Bool, true, false, if◌then◌else◌, nat_lt, List, [], ◌∷◌, ◌++◌, length, Option, Some, None}
use Rattle.channel_core.specs.EndValue.{EndValue}
use Rattle.channel_core.specs.Wire.{end_of_stream}
use Rattle.channel_core.specs.declared.held.Outgoing.{Outgoing}
use Rattle.channel_core.specs.declared.states.Cause.{Cause}
use Rattle.channel_core.specs.declared.states.Cause.TheVariants.{Own, Eos, Ended, Protocol, Stream}
use Rattle.channel_core.specs.declared.states.EndState.{EndState}
use Rattle.channel_core.specs.declared.states.EndState.TheVariants.{Opening, Live, Reopening, Closed}

abbrev pub is_closed : EndState → Bool
is_closed Opening = false
is_closed Live = false
is_closed Reopening = false
is_closed (Closed cause) = true

-- the other side is told, unless it ended its stream or its bytes have ended
abbrev pub is_told : Cause → Bool
is_told Own = true
is_told Eos = false
is_told Ended = false
is_told (Protocol message reason) = true
is_told (Stream fault) = true

abbrev pub farewell : Cause → List Outgoing
farewell cause = if is_told cause then end_of_stream ∷ [] else []

-- what wasn't taken is dropped, and what is queued stays
abbrev pub closed_for : {T : Type 0} → Cause → EndValue T → EndValue T
closed_for cause e = record e { state = Closed cause; inbox = []; stop = None; queued = e.queued ++ farewell cause }

-- by its own side; a closed end stays as it is
abbrev pub closed_own : {T : Type 0} → EndValue T → EndValue T
closed_own e = if is_closed e.state then e else closed_for Own e

-- ---- the pending commands of a closed end, in order of issue

abbrev pub first_pending : {T : Type 0} → List (ℕ × T) → Option T
first_pending [] = None
first_pending (row ∷ rows) = Some row.1

abbrev pub without_first : {A : Type 0} → List A → List A
without_first [] = []
without_first (x ∷ xs) = xs

abbrev pub drained : {T : Type 0} → EndValue T → Option T
drained e = if is_closed e.state then first_pending e.pending else None

abbrev pub after_drain : {T : Type 0} → EndValue T → EndValue T
after_drain e = if is_closed e.state then record e { pending = without_first e.pending } else e

-- ---- something is still to be sent
abbrev pub has_queued : {T : Type 0} → EndValue T → Bool
has_queued e = nat_lt 0 (length e.queued)
