-- What happens on the way from a client to the agent.
use Rattle.std.specs.Prelude.{ℕ, zero, suc, ◌+◌, ◌-◌, ◌==◌, nat_lt, Bool, true, false, ◌&&◌, if◌then◌else◌, List, [], ◌∷◌, ◌++◌, codes, decimal, length, take, slice_get, slice_set, Option, Some, None}
use Rattle.std.specs.List.{list_all}
use Rattle.channel_core.specs.declared.held.Outgoing.{Outgoing}
use Rattle.value_node.specs.Value.{connected as value_connected, ended, new_value, turned as value_turned, waiting_at}
use Rattle.value_node.specs.ValueValue.{ValueValue}
use Rattle.value_node.specs.declared.states.Side.{Side}
use Rattle.value_node.specs.declared.states.Side.TheVariants.{Below, Above}
use Rattle.value_node.specs.declared.states.ValueTurn.{ValueTurn}
use Rattle.value_node.specs.declared.states.ValueTurn.TheVariants.{Nothing, Took, Connect}
use Rattle.chain_route.specs.Hop as hop
use Rattle.chain_route.specs.Hop.{no_hop}
use Rattle.chain_route.specs.Lane.{staying}
use Rattle.chain_route.specs.Passing.{Pair, all_delivered, carried, delivered, pair}
use Rattle.chain_route.specs.RouteValue.{RouteValue}
use Rattle.chain_route.specs.declared.hop.Hop.{Hop}

-- ---- a new one: one hop more than value-adds, none of them connected, and no value-add made yet

abbrev pub more_hops : ℕ → List Hop
more_hops zero = []
more_hops (suc n) = no_hop ∷ more_hops n

abbrev pub hops_of : ℕ → List Hop
hops_of adds = no_hop ∷ more_hops adds

abbrev pub new_route : ℕ → RouteValue
new_route adds = record { hops = hops_of adds; adds = [] }

-- the place of the hop that leads to the agent
abbrev pub last_of : RouteValue → ℕ
last_of r = length r.hops - 1

-- ---- a hop, or a value-add, at a place changes; where there is none, nothing does

abbrev pub hop_put : (Hop → Hop) → ℕ → Option Hop → RouteValue → RouteValue
hop_put change at None r = r
hop_put change at (Some h) r = record r { hops = slice_set r.hops at (change h) }

abbrev pub on_hop : (Hop → Hop) → ℕ → RouteValue → RouteValue
on_hop change at r = hop_put change at (slice_get r.hops at) r

abbrev pub add_put : (ValueValue → ValueValue) → ℕ → Option ValueValue → RouteValue → RouteValue
add_put change at None r = r
add_put change at (Some v) r = record r { adds = slice_set r.adds at (change v) }

abbrev pub on_add : (ValueValue → ValueValue) → ℕ → RouteValue → RouteValue
on_add change at r = add_put change at (slice_get r.adds at) r

-- ---- a value-add and the hop on a side of it

abbrev pub beside : Side → ℕ → ℕ
beside Below at = at
beside Above at = at + 1

-- both of them change, where both are there
abbrev pub with_pair : Side → ℕ → Pair → RouteValue → RouteValue
with_pair side at p r = record r { adds = slice_set r.adds at p.add; hops = slice_set r.hops (beside side at) p.hop }

abbrev pub pair_put : (Pair → Pair) → Side → ℕ → Option ValueValue → Option Hop → RouteValue → RouteValue
pair_put change side at (Some v) (Some h) r = with_pair side at (change (pair v h)) r
pair_put change side at _ _ r = r

abbrev pub on_pair : (Pair → Pair) → Side → ℕ → RouteValue → RouteValue
on_pair change side at r = pair_put change side at (slice_get r.adds at) (slice_get r.hops (beside side at)) r

-- what the value-add queued on the side is in flight at once
abbrev pub with_carried : Side → ℕ → RouteValue → RouteValue
with_carried side at r = on_pair (carried side) side at r

-- the next bytes in flight arrive at the side as one piece, or all that are in flight
abbrev pub delivered_at : Side → ℕ → ℕ → RouteValue → RouteValue
delivered_at side at count r = on_pair (delivered side count) side at r

abbrev pub all_delivered_at : Side → ℕ → RouteValue → RouteValue
all_delivered_at side at r = on_pair (all_delivered side) side at r

-- ---- connections

-- the ID of the peer of the value-add above a hop that isn't the last: the value-add behind it, counted from 1, or the agent
abbrev pub peer_of : ℕ → RouteValue → List ℕ
peer_of at r = if at + 1 == last_of r then codes "Agent" else codes "V" ++ decimal (at + 2)

-- the upper end of a value-add that waits for a connection begins, and its Hello goes up
abbrev pub with_upper : ℕ → RouteValue → RouteValue
with_upper at r = with_carried Above at (on_add value_connected at r)

abbrev pub upper_below : ℕ → RouteValue → RouteValue
upper_below at r = if at == 0 then r else with_upper (at - 1) r

-- the hop begins anew with nothing in flight, and so does the upper end of a value-add below it
abbrev pub joined : ℕ → RouteValue → RouteValue
joined at r = upper_below at (on_hop (λ h. hop.connected []) at r)

-- the agent refused the channel above the hop: it begins anew, but the end of the stream comes down, and nothing goes up
abbrev pub refused : ℕ → RouteValue → RouteValue
refused at r = upper_below at (on_hop (λ h. hop.refused) at r)

-- the value-add above a hop is made anew, and those that an earlier one had above it are gone
abbrev pub made_at : ℕ → RouteValue → RouteValue
made_at at r = record r { adds = take at r.adds ++ new_value (peer_of at r) ∷ [] }

-- the node below a hop connects: to a value-add that is made anew, whose Hello comes down; or to the agent, which isn't done
-- here
abbrev pub connected : ℕ → RouteValue → Bool × RouteValue
connected at r = if nat_lt at (last_of r) then (false, with_carried Below at (joined at (made_at at r))) else (true, r)

-- the agent opened a channel for the node below the last hop, or refused it
abbrev pub reached : Bool → RouteValue → RouteValue
reached did r = if did then joined (last_of r) r else refused (last_of r) r

-- ---- a value-add takes an entry from a side, and connects where it is redirected

abbrev pub connected_after : ValueTurn → ℕ → RouteValue → Bool × RouteValue
connected_after Nothing at r = (false, r)
connected_after Took at r = (false, r)
connected_after Connect at r = connected (at + 1) r

abbrev pub turn_put : Side → ℕ → Option ValueValue → RouteValue → Bool × RouteValue
turn_put side at None r = (false, r)
turn_put side at (Some v) r =
    let next = value_turned side v in
    connected_after next.0 at (with_carried Above at (with_carried Below at (record r { adds = slice_set r.adds at next.1 })))

abbrev pub turned : Side → ℕ → RouteValue → Bool × RouteValue
turned side at r = turn_put side at (slice_get r.adds at) r

abbrev pub waiting_of : Side → Option ValueValue → ℕ
waiting_of side None = 0
waiting_of side (Some v) = waiting_at side v.relay

abbrev pub waiting_in : Side → ℕ → RouteValue → ℕ
waiting_in side at r = waiting_of side (slice_get r.adds at)

-- ---- a hop is cut, with all that is in flight on it, and the value-adds at its ends have ended; nothing where it isn't live

abbrev pub ended_below : ℕ → RouteValue → RouteValue
ended_below at r = if at == 0 then r else on_add (ended Above) (at - 1) r

abbrev pub live_of : Option Hop → Bool
live_of None = false
live_of (Some h) = h.is_live

abbrev pub is_live : ℕ → RouteValue → Bool
is_live at r = live_of (slice_get r.hops at)

abbrev pub cut : ℕ → RouteValue → Bool × RouteValue
cut at r = if is_live at r then (true, ended_below at (on_add (ended Below) at (on_hop hop.cut at r))) else (false, r)

-- ---- the client's side, and the agent's

abbrev pub sent_up : List Outgoing → RouteValue → RouteValue
sent_up outs r = on_hop (hop.sent_up outs) 0 r

abbrev pub sent_down : List Outgoing → RouteValue → RouteValue
sent_down outs r = on_hop (hop.sent_down outs) (last_of r) r

abbrev pub down_of : Option Hop → List Outgoing
down_of None = []
down_of (Some h) = h.down

abbrev pub up_of : Option Hop → List Outgoing
up_of None = []
up_of (Some h) = h.up

-- what is in flight to the client, and to the agent
abbrev pub flight_down : RouteValue → List Outgoing
flight_down r = down_of (slice_get r.hops 0)

abbrev pub flight_up : RouteValue → List Outgoing
flight_up r = up_of (slice_get r.hops (last_of r))

abbrev pub arrived_down : ℕ → RouteValue → RouteValue
arrived_down count r = on_hop (λ h. record h { down = staying count h.down }) 0 r

abbrev pub arrived_up : ℕ → RouteValue → RouteValue
arrived_up count r = on_hop (λ h. record h { up = staying count h.up }) (last_of r) r

-- ---- nothing is in flight on any hop, and no entry waits at a value-add

abbrev pub is_hop_quiet : Hop → Bool
is_hop_quiet h = (length h.up == 0) && (length h.down == 0)

abbrev pub is_add_quiet : ValueValue → Bool
is_add_quiet v = (waiting_at Below v.relay == 0) && (waiting_at Above v.relay == 0)

abbrev pub is_quiet : RouteValue → Bool
is_quiet r = list_all is_hop_quiet r.hops && list_all is_add_quiet r.adds
