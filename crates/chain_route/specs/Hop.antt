-- A hop: a connection, from its making until it is cut, and what is in flight on it in both directions.
use Rattle.std.specs.Prelude.{ℕ, Bool, true, false, not, ◌&&◌, if◌then◌else◌, List, [], ◌∷◌, ◌++◌}
use Rattle.channel_core.specs.Wire.{end_of_stream}
use Rattle.channel_core.specs.declared.held.Outgoing.{Outgoing}
use Rattle.value_node.specs.declared.states.Side.{Side}
use Rattle.value_node.specs.declared.states.Side.TheVariants.{Below, Above}
use Rattle.chain_route.specs.Lane.{staying}
use Rattle.chain_route.specs.declared.hop.Hop.{Hop}

-- no connection yet
abbrev pub no_hop : Hop
no_hop = record { is_live = false; is_refused = false; up = []; down = [] }

-- a connection, on which this comes down
abbrev pub connected : List Outgoing → Hop
connected down = record { is_live = true; is_refused = false; up = []; down = down }

-- a connection to the agent whose channel it refused: the end of the stream comes down
abbrev pub refused : Hop
refused = record { is_live = true; is_refused = true; up = []; down = end_of_stream ∷ [] }

-- what is in flight is dropped
abbrev pub cut : Hop → Hop
cut hop = no_hop

-- whether what is queued to go up does so: what is queued for a hop that isn't live is dropped, and so is what goes up to a
-- channel that the agent refused
abbrev pub goes_up : Hop → Bool
goes_up hop = hop.is_live && not hop.is_refused

-- what a node queues is in flight at once, or it is dropped
abbrev pub sent_up : List Outgoing → Hop → Hop
sent_up outs hop = if goes_up hop then record hop { up = hop.up ++ outs } else hop

abbrev pub sent_down : List Outgoing → Hop → Hop
sent_down outs hop = if hop.is_live then record hop { down = hop.down ++ outs } else hop

-- ---- at a side of a value-add: the hop below it leads up to it, and the hop above it leads down to it

abbrev pub sent_from : Side → List Outgoing → Hop → Hop
sent_from Below outs hop = sent_down outs hop
sent_from Above outs hop = sent_up outs hop

abbrev pub lane_to : Side → Hop → List Outgoing
lane_to Below hop = hop.up
lane_to Above hop = hop.down

abbrev pub arrived_at : Side → ℕ → Hop → Hop
arrived_at Below count hop = record hop { up = staying count hop.up }
arrived_at Above count hop = record hop { down = staying count hop.down }
