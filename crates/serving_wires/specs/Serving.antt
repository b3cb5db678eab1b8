-- What a serving command does with its wires, by what its nodes queue for each of them.
use Rattle.std.specs.Prelude.{ℕ, ◌≡◌, ◌≢◌, ◌<◌, ◌==◌, Bool, true, false, ◌&&◌, ◌||◌, List, [], ◌∷◌, ◌++◌, length, Result, is_err, if◌then◌else◌}
use Rattle.std.specs.List.{list_any}
use Rattle.std.specs.List.Sorted.{IsStrictlyIncreasing}
use Rattle.tcf_wires.specs.Told.{taken_on}
use Rattle.tcf_wires.specs.declared.call.WireCall.{WireCall}
use Rattle.tcf_wires.specs.declared.call.WireCall.TheVariants.{Listened, Connected, Gave, Offered, Shut}
use Rattle.tcf_wires.specs.declared.event.WireEvent.{WireEvent}
use Rattle.tcf_wires.specs.declared.event.WireEvent.TheVariants as events
use Rattle.tcf_wires.specs.declared.event.WireRefusal.{WireRefusal}
use Rattle.serving_wires.specs.Calls.{channels_put, events_in, is_short, shut_count, was_lost}

-- What the nodes have queued for a wire after these events, whatever the wires took of it, and whether they will queue
-- nothing more for it.
pub record Nodes : Type 0 where
  pub served : List WireEvent → ℕ → List ℕ
  pub closed : List WireEvent → ℕ → Bool

-- of what is queued for a wire nothing is left to put: all of it was taken, or the wire was lost
abbrev pub is_put : List ℕ → ℕ → List WireCall → Bool
is_put queued channel calls = was_lost channel calls || (length (taken_on channel calls) == length queued)

-- A wire, once all is put that can be.
pub record IsCarried (queued : List ℕ) (is_closed : Bool) (channel : ℕ) (calls : List WireCall) : Type 0 where
  -- what was taken is a front of what is queued,
  pub front : (rest : List ℕ) × (queued ≡ taken_on channel calls ++ rest)
  -- and all of it, unless the last put took less than it was offered, or one was lost
  pub whole : is_short channel calls ≡ false → was_lost channel calls ≡ false → taken_on channel calls ≡ queued
  -- the wire is shut exactly where nothing more will be queued and nothing is left, and once
  pub shut : shut_count channel calls ≡ (if is_closed && is_put queued channel calls then 1 else 0)

-- All wires, once all is put that can be. Since the last event the puts went in rising order of the channels.
pub record IsSettled (nodes : Nodes) (calls : List WireCall) : Type 0 where
  pub carried : (channel : ℕ) → IsCarried (nodes.served (events_in calls) channel) (nodes.closed (events_in calls) channel) channel calls
  pub rising : IsStrictlyIncreasing (channels_put calls)

-- a put offers all that is queued and wasn't taken, and something; on a wire that was lost or shut nothing is put
pub record IsOffer (nodes : Nodes) (channel : ℕ) (piece : List ℕ) (before : List WireCall) : Type 0 where
  pub all : taken_on channel before ++ piece ≡ nodes.served (events_in before) channel
  pub some : 0 < length piece
  pub kept : was_lost channel before ≡ false
  pub open_still : shut_count channel before ≡ 0

-- a call, by the calls before it: all is put before the next event is asked for
abbrev pub IsInPlace : Nodes → List WireCall → WireCall → Type 0
IsInPlace nodes before (Listened address answer) = Unit {0}
IsInPlace nodes before (Connected peer answer) = Unit {0}
IsInPlace nodes before (Gave answer) = events_in before ≢ [] → IsSettled nodes before
IsInPlace nodes before (Offered channel piece answer) = IsOffer nodes channel piece before
IsInPlace nodes before (Shut channel) = shut_count channel before ≡ 0

-- what was taken on each wire is a front of what was queued for it, whatever memory was wanting
abbrev pub AreFronts : Nodes → List WireCall → Type 0
AreFronts nodes calls = (channel : ℕ) → (rest : List ℕ) × (nodes.served (events_in calls) channel ≡ taken_on channel calls ++ rest)

-- behind these calls others come, each of which fits those before it
abbrev pub EachBehind : (List WireCall → WireCall → Type 0) → List WireCall → List WireCall → Type 0
EachBehind Fits first calls = (before after : List WireCall) (call : WireCall) → calls ≡ before ++ call ∷ after → Fits (first ++ before) call

-- each call, by the calls before it
abbrev pub Each : (List WireCall → WireCall → Type 0) → List WireCall → Type 0
Each Fits calls = (before after : List WireCall) (call : WireCall) → calls ≡ before ++ call ∷ after → Fits before call

-- The calls of a serving command.
abbrev pub Serves : Nodes → List WireCall → Type 0
Serves nodes calls = Each (IsInPlace nodes) calls

-- a call that listens or connects
abbrev pub reaches_out : WireCall → Bool
reaches_out (Listened address answer) = true
reaches_out (Connected peer answer) = true
reaches_out (Gave answer) = false
reaches_out (Offered channel piece answer) = false
reaches_out (Shut channel) = false

-- the first call listens on this address, and no later one listens or connects
pub record ListensOnce (address : List ℕ) (calls : List WireCall) : Type 0 where
  pub answer : Result Unit WireRefusal
  pub later : List WireCall
  pub first : calls ≡ Listened address answer ∷ later
  pub once : list_any reaches_out later ≡ false

abbrev pub listens : WireCall → Bool
listens (Listened address answer) = true
listens (Connected peer answer) = false
listens (Gave answer) = false
listens (Offered channel piece answer) = false
listens (Shut channel) = false

-- the first call listens on this address, and no later one listens; it may connect
pub record ListensFirst (address : List ℕ) (calls : List WireCall) : Type 0 where
  pub answer : Result Unit WireRefusal
  pub later : List WireCall
  pub first : calls ≡ Listened address answer ∷ later
  pub once : list_any listens later ≡ false

-- a call that failed; a lost put ends nothing, and isn't meant
abbrev pub fails : WireCall → Bool
fails (Listened address answer) = is_err answer
fails (Connected peer answer) = is_err answer
fails (Gave answer) = is_err answer
fails (Offered channel piece answer) = false
fails (Shut channel) = false

-- of nodes that connect a connect that failed isn't meant either
abbrev pub breaks : WireCall → Bool
breaks (Listened address answer) = is_err answer
breaks (Connected peer answer) = false
breaks (Gave answer) = is_err answer
breaks (Offered channel piece answer) = false
breaks (Shut channel) = false

abbrev pub is_stop : WireEvent → Bool
is_stop (events.Opened channel) = false
is_stop (events.Piece channel bytes) = false
is_stop (events.Ended channel) = false
is_stop (events.Lost channel) = false
is_stop events.Idle = false
is_stop events.Stop = true

abbrev pub stops : List WireCall → Bool
stops calls = list_any is_stop (events_in calls)
