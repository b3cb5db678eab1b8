-- The value-adds of a way by their calls: which calls of its value-adds each call of a way is, and which value-adds it makes. They
-- are a function of the call and the way before it.
use Rattle.std.specs.Prelude.{ℕ, zero, suc, ◌+◌, ◌-◌, ◌==◌, ◌||◌, ◌≡◌, nat_lt, Bool, true, false, if◌then◌else◌, List, [], ◌∷◌, ◌++◌, map, slice_get, slice_set, take, Option, Some, None}
use Rattle.channel_core.specs.declared.held.Outgoing.{Outgoing}
use Rattle.value_node.specs.Runs.{Call as AddCall}
use Rattle.value_node.specs.Runs as add_call
use Rattle.value_node.specs.Value.{connected as value_connected, turned as value_turned}
use Rattle.value_node.specs.ValueValue.{ValueValue}
use Rattle.value_node.specs.declared.states.Side.{Side}
use Rattle.value_node.specs.declared.states.Side.TheVariants.{Below, Above}
use Rattle.value_node.specs.declared.states.ValueTurn.{ValueTurn}
use Rattle.value_node.specs.declared.states.ValueTurn.TheVariants.{Nothing, Took, Connect}
use Rattle.chain_route.specs.Carrying.{Carries, Made}
use Rattle.chain_route.specs.Hop as hop
use Rattle.chain_route.specs.Hop.{lane_to}
use Rattle.chain_route.specs.Lane.{arriving}
use Rattle.chain_route.specs.Passing.{parts_came, queued_at, takes}
use Rattle.chain_route.specs.Route as route
use Rattle.chain_route.specs.Route.{beside, is_live, last_of, made_at, on_add, on_hop, peer_of, with_carried}
use Rattle.chain_route.specs.RouteValue.{RouteValue}
use Rattle.chain_route.specs.Runs.{Call, RouteRun, after_all, after_call, arrives_down, arrives_up, cuts, delivers, is_waiting, joins, no_calls, reaches, sends_down, sends_up, turns}
use Rattle.chain_route.specs.declared.hop.Hop.{Hop}

-- ---- more calls of a value-add

abbrev pub with_calls : List AddCall → Made → Made
with_calls calls m = record m { calls = m.calls ++ calls }

-- of the one at a place; where there is none, of none
abbrev pub called_at : ℕ → List AddCall → List Made → List Made
called_at at calls [] = []
called_at zero calls (m ∷ made) = with_calls calls m ∷ made
called_at (suc at) calls (m ∷ made) = m ∷ called_at at calls made

-- one of which nothing was called is made above a hop, and those beyond it are gone
abbrev pub fresh_made : List ℕ → Made
fresh_made peer = record { peer = peer; calls = [] }

abbrev pub made_anew : ℕ → RouteValue → List Made → List Made
made_anew at r made = take at made ++ fresh_made (peer_of at r) ∷ []

-- ---- what is called of a value-add where it and the hop beside it are there

abbrev pub pair_called : (ValueValue → Hop → List AddCall) → ℕ → Option ValueValue → Option Hop → List Made → List Made
pair_called calls at (Some v) (Some h) made = called_at at (calls v h) made
pair_called calls at _ _ made = made

-- what it queued is given out, a message with each call
abbrev pub giving : Side → ValueValue → List AddCall
giving side v = map (λ out. add_call.gives side) (queued_at side v)

abbrev pub carried : Side → ℕ → RouteValue → List Made → List Made
carried side at r made = pair_called (λ v h. giving side v) at (slice_get r.adds at) (slice_get r.hops (beside side at)) made

-- a piece arrives, a part of a message with each call, and what the end queued by it is given out
abbrev pub coming : Side → List Outgoing → List AddCall
coming side parts = map (λ part. add_call.comes side part.bytes part.mark) parts

abbrev pub receiving : Side → ℕ → ValueValue → Hop → List AddCall
receiving side count v h =
    let parts = arriving count (lane_to side h) in
    if takes side v h then coming side parts ++ giving side (parts_came side parts v) else []

abbrev pub delivered : Side → ℕ → ℕ → RouteValue → List Made → List Made
delivered side count at r made =
    pair_called (receiving side count) at (slice_get r.adds at) (slice_get r.hops (beside side at)) made

-- ---- connections

-- the upper end of the value-add below a hop begins, and its Hello goes up
abbrev pub with_upper : ℕ → RouteValue → List Made → List Made
with_upper at r made = carried Above at (on_add value_connected at r) (called_at at (add_call.connects ∷ []) made)

abbrev pub upper_below : ℕ → RouteValue → List Made → List Made
upper_below at r made = if at == 0 then made else with_upper (at - 1) r made

-- to a value-add, which is made, and whose Hello comes down; or to the agent
abbrev pub connected : ℕ → RouteValue → List Made → List Made
connected at r made =
    let next = made_at at r in
    if nat_lt at (last_of r)
    then carried Below at (route.joined at next) (upper_below at (on_hop (λ h. hop.connected []) at next) (made_anew at r made))
    else made

-- the hop to the agent begins so
abbrev pub opened_hop : Bool → Hop
opened_hop true = hop.connected []
opened_hop false = hop.refused

abbrev pub reached : Bool → RouteValue → List Made → List Made
reached did r made = let last = last_of r in upper_below last (on_hop (λ h. opened_hop did) last r) made

-- ---- turns, and cuts

abbrev pub connected_after : ValueTurn → ℕ → RouteValue → List Made → List Made
connected_after Nothing at r made = made
connected_after Took at r made = made
connected_after Connect at r made = connected (at + 1) r made

abbrev pub turned_of : Side → ℕ → Option ValueValue → RouteValue → List Made → List Made
turned_of side at None r made = made
turned_of side at (Some v) r made =
    let next = value_turned side v in
    let taken = record r { adds = slice_set r.adds at next.1 } in
    let below = with_carried Below at taken in
    connected_after next.0 at (with_carried Above at below)
    (carried Above at below (carried Below at taken (called_at at (add_call.turns side ∷ []) made)))

abbrev pub turned : Side → ℕ → RouteValue → List Made → List Made
turned side at r made = turned_of side at (slice_get r.adds at) r made

-- the bytes end above the value-add below a hop, and below the one above it
abbrev pub ended : ℕ → List Made → List Made
ended zero made = called_at zero (add_call.bytes_end Below ∷ []) made
ended (suc at) made = called_at at (add_call.bytes_end Above ∷ []) (called_at (suc at) (add_call.bytes_end Below ∷ []) made)

abbrev pub cut : ℕ → RouteValue → List Made → List Made
cut at r made = if is_live at r then ended at made else made

-- ---- each call of a way

abbrev pub made_by : Call → RouteRun → List Made → List Made
made_by joins r made = if r.past.is_wanted || r.past.is_joined then made else connected 0 r.route made
made_by (reaches did) r made = if is_waiting r then reached did r.route made else made
made_by (sends_up outs) r made = made
made_by (sends_down outs) r made = made
made_by (arrives_up count) r made = made
made_by (arrives_down count) r made = made
made_by (delivers side at count) r made = delivered side count at r.route made
made_by (turns side at) r made = turned side at r.route made
made_by (cuts at) r made = cut at r.route made

abbrev pub made_from : List Call → RouteRun → List Made → List Made
made_from [] r made = made
made_from (call ∷ calls) r made = made_from calls (after_call call r) (made_by call r made)

-- the value-adds of a new way with so many of them, after these calls
abbrev pub made_after : ℕ → List Call → List Made
made_after adds calls = made_from calls (no_calls adds) []

-- ---- They are those that a way carries by.

pub record CarriesBy (made : List Made) (calls : List Call) (r : RouteRun) : Type 0 where
  pub carries : Carries calls r
  pub are : carries.made ≡ made

abbrev pub CarriesByItsCalls : Type 0
CarriesByItsCalls = (adds : ℕ) (calls : List Call) → CarriesBy (made_after adds calls) calls (after_all calls (no_calls adds))
