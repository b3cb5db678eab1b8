-- How a program that is served stands after some events and answers of connects. Nothing is put here, and nothing is taken
-- away: all that was ever queued for each wire is there, and all that came on it.
use Rattle.std.specs.Prelude.{ℕ, ◌==◌, Bool, true, false, List, [], ◌∷◌, ◌++◌, fold, map, Option, None, Some, Ok, Err, if◌then◌else◌}
use Rattle.std.specs.List.{IsDistinct, flat_map}
use Rattle.tcf_wires.specs.declared.call.WireCall.{WireCall}
use Rattle.tcf_wires.specs.declared.call.WireCall.TheVariants.{Connected, Gave}
use Rattle.tcf_wires.specs.declared.event.WireEvent.{WireEvent}
use Rattle.tcf_wires.specs.declared.event.WireEvent.TheVariants as events
use Rattle.serving_wires.specs.Changes.{changed_on, item_on}
use Rattle.serving_wires.specs.Order.{Order, channel_of, closes, leaves, queues}
use Rattle.serving_wires.specs.Process.{Answer, Process, asks, done, tells}
use Rattle.serving_wires.specs.Program.{Program}
use Rattle.serving_wires.specs.Row.{Row}
use Rattle.serving_wires.specs.Serving.{Nodes}

-- ---- what was ever queued for a wire, and what came on it

pub record Wire : Type 0 where
  pub queued : List ℕ
  pub came : List ℕ  -- the bytes of the pieces that came, since it opened
  pub is_closed : Bool  -- nothing more will be queued
  pub is_left : Bool  -- another wire took its place

abbrev pub unused_wire : Wire
unused_wire = record { queued = []; came = []; is_closed = false; is_left = false }

abbrev pub sent_after : Order → Wire → Wire
sent_after (queues channel bytes) s = if s.is_closed then s else record s { queued = s.queued ++ bytes }
sent_after (closes channel) s = record s { is_closed = true }
sent_after (leaves channel) s = record s { is_closed = true; is_left = true }

abbrev pub sent_with : Order → List (Row Wire) → List (Row Wire)
sent_with order sent = changed_on (channel_of order) (sent_after order) sent

-- a piece came
abbrev pub with_piece : List ℕ → Wire → Wire
with_piece bytes s = record s { came = s.came ++ bytes }

-- a connection that came, or was made, has a wire
abbrev pub with_wire : ℕ → List (Row Wire) → List (Row Wire)
with_wire channel sent = sent ++ (record { channel = channel; item = unused_wire }) ∷ []

abbrev pub wires_with : WireEvent → List (Row Wire) → List (Row Wire)
wires_with (events.Opened channel) sent = with_wire channel sent
wires_with (events.Piece channel bytes) sent = changed_on channel (with_piece bytes) sent
wires_with (events.Ended channel) sent = sent
wires_with (events.Lost channel) sent = sent
wires_with events.Idle sent = sent
wires_with events.Stop sent = sent

abbrev pub wires_after : Answer → List (Row Wire) → List (Row Wire)
wires_after (Ok channel) sent = with_wire channel sent
wires_after (Err refusal) sent = sent

-- no two wires have the same channel
abbrev pub AreApart : List (Row Wire) → Type 0
AreApart wires = IsDistinct (λ one other. one == other) (map (λ row. row.channel) wires)

-- ---- what is served, and its wires; the next event is waited for, or the answer of a connect

pub record Standing (A : Type 0) : Type 0 where
  pub served : A
  pub sent : List (Row Wire)

pub data State (A : Type 0) : Type 0 where
  rests : Standing A → State A
  waits : Standing A → (Answer → Process A) → State A

-- a process goes on, until it is done or asks for a connection
abbrev pub landed : {A : Type 0} → A → List (Row Wire) → Process A → State A
landed a sent (done new) = rests (record { served = new; sent = sent })
landed a sent (tells order p) = landed a (sent_with order sent) p
landed a sent (asks next) = waits (record { served = a; sent = sent }) next

-- an event came, or a connect was answered
pub data Heard : Type 0 where
  came : WireEvent → Heard
  answered : Answer → Heard

abbrev pub after_one : {A : Type 0} → Program A → State A → Heard → State A
after_one program (rests s) (came event) = landed s.served (wires_with event s.sent) (program.behaviour.handled event s.served)
after_one program (rests s) (answered answer) = rests s
after_one program (waits s next) (came event) = waits s next
after_one program (waits s next) (answered answer) = landed s.served (wires_after answer s.sent) (next answer)

-- before anything was heard
abbrev pub at_first : {A : Type 0} → Program A → State A
at_first program = landed program.first [] program.begins

abbrev pub after : {A : Type 0} → Program A → List Heard → State A
after program heard = fold (after_one program) (at_first program) heard

-- what was heard by these calls
abbrev pub heard_by : WireCall → List Heard
heard_by (Gave (Ok event)) = came event ∷ []
heard_by (Connected peer answer) = answered answer ∷ []
heard_by call = []

abbrev pub heard_in : List WireCall → List Heard
heard_in calls = flat_map heard_by calls

abbrev pub state_after : {A : Type 0} → Program A → List WireCall → State A
state_after program calls = after program (heard_in calls)

-- ---- what can be said of a state

-- what is served; while the answer of a connect is waited for, as it stood when the last event came
abbrev pub standing_in : {A : Type 0} → State A → Standing A
standing_in (rests s) = s
standing_in (waits s next) = s

abbrev pub sent_in : {A : Type 0} → State A → List (Row Wire)
sent_in (rests s) = s.sent
sent_in (waits s next) = s.sent

abbrev pub is_resting : {A : Type 0} → State A → Bool
is_resting (rests s) = true
is_resting (waits s next) = false

abbrev pub wire_in : Option Wire → Wire
wire_in None = unused_wire
wire_in (Some sent) = sent

abbrev pub wire_on : {A : Type 0} → ℕ → State A → Wire
wire_on channel state = wire_in (item_on channel (sent_in state))

abbrev pub nodes_in : {A : Type 0} → State A → Nodes
nodes_in state = record {
  served = λ events channel. (wire_on channel state).queued;
  closed = λ events channel. (wire_on channel state).is_closed;
}
