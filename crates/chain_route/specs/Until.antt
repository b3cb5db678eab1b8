-- A round's delivery goes on until nothing is in flight, or the inbox is full.
use Rattle.std.specs.Prelude.{ℕ, ◌≡◌, ◌≤◌, ◌⊎◌, Bool, false, List, [], slice_get, Some}
use Rattle.channel_core.specs.declared.held.Outgoing.{Outgoing}
use Rattle.value_node.specs.Value.{waiting_at}
use Rattle.value_node.specs.ValueValue.{ValueValue}
use Rattle.value_node.specs.declared.states.Side.{Side}
use Rattle.chain_route.specs.Hop.{lane_to}
use Rattle.chain_route.specs.Route.{all_delivered_at, beside}
use Rattle.chain_route.specs.RouteValue.{RouteValue}
use Rattle.chain_route.specs.declared.hop.Hop.{Hop}

-- nothing of this is in flight any more, or 200 entries wait at its receiver, or the hop isn't live
abbrev pub HasArrived : List Outgoing → (waiting : ℕ) (is_live : Bool) → Type 0
HasArrived flight waiting is_live = (flight ≡ []) ⊎ ((200 ≤ waiting) ⊎ (is_live ≡ false))

-- so it is with what goes to a side of the value-add at this place, if both are there
abbrev pub HasArrivedAt : Side → ℕ → RouteValue → Type 0
HasArrivedAt side at r = (v : ValueValue) (hop : Hop) → slice_get r.adds at ≡ Some v → slice_get r.hops (beside side at) ≡ Some hop
    → HasArrived (lane_to side hop) (waiting_at side v.relay) hop.is_live

-- Whatever way it is, when all that is in flight has arrived there.
abbrev pub AllArriveAtAdds : Type 0
AllArriveAtAdds = (side : Side) (at : ℕ) (r : RouteValue) → HasArrivedAt side at (all_delivered_at side at r)
