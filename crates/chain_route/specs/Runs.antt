-- A way over any calls, and what its client and the agent gave it and got of it.
use Rattle.std.specs.Prelude.{ℕ, ◌-◌, ◌==◌, Bool, true, false, ◌||◌, ◌&&◌, not, if◌then◌else◌, List, [], ◌∷◌, ◌++◌, slice_get, Option, Some, None}
use Rattle.channel_core.specs.Wire.{end_of_stream}
use Rattle.channel_core.specs.declared.held.Outgoing.{Outgoing}
use Rattle.value_node.specs.Value.{awaits}
use Rattle.value_node.specs.ValueValue.{ValueValue}
use Rattle.value_node.specs.declared.states.Side.{Side}
use Rattle.chain_route.specs.Lane.{arriving}
use Rattle.chain_route.specs.Route.{arrived_down, arrived_up, connected, cut, delivered_at, flight_down, flight_up, is_live, last_of, new_route, reached, sent_down, sent_up, turned}
use Rattle.chain_route.specs.RouteValue.{RouteValue}

-- ---- the calls that change a way

pub data Call : Type 0 where
  joins : Call  -- the client connects
  reaches : (did : Bool) → Call  -- the agent opened a channel for it, or refused it
  sends_up : (outs : List Outgoing) → Call  -- what the client queued
  sends_down : (outs : List Outgoing) → Call  -- what the agent queued
  arrives_up : (count : ℕ) → Call  -- bytes arrive at the agent
  arrives_down : (count : ℕ) → Call  -- bytes arrive at the client
  delivers : (side : Side) (at count : ℕ) → Call  -- bytes arrive at a value-add
  turns : (side : Side) (at : ℕ) → Call  -- a value-add takes an entry
  cuts : (hop : ℕ) → Call

-- what the client, or the agent, gave its hop since that was connected, what came to it there, and whether it was lost; and
-- whether the agent refused the channel
pub record Talk : Type 0 where
  pub gave : List Outgoing
  pub got : List Outgoing
  pub is_lost : Bool
  pub is_refused : Bool

abbrev pub no_talk : Talk
no_talk = record { gave = []; got = []; is_lost = false; is_refused = false }

pub record Past : Type 0 where
  pub is_wanted : Bool  -- the client wants a channel of the agent, and no value-add is between them
  pub is_joined : Bool  -- the client's hop was connected
  pub is_reached : Bool  -- the agent's hop was
  pub client : Talk
  pub agent : Talk
  pub earlier : List (List Outgoing)  -- what came to the agent's earlier channels, in order

abbrev pub no_past : Past
no_past = record { is_wanted = false; is_joined = false; is_reached = false; client = no_talk; agent = no_talk; earlier = [] }

pub record RouteRun : Type 0 where
  pub route : RouteValue
  pub past : Past

abbrev pub no_calls : ℕ → RouteRun
no_calls adds = record { route = new_route adds; past = no_past }

-- ---- each call, and what it adds to the past. A call that isn't awaited does nothing

-- a channel of the agent is wanted, by the client or by the last value-add
abbrev pub awaits_of : Option ValueValue → Bool
awaits_of None = false
awaits_of (Some v) = awaits v.relay

abbrev pub is_waiting : RouteRun → Bool
is_waiting r = if last_of r.route == 0 then r.past.is_wanted else awaits_of (slice_get r.route.adds (last_of r.route - 1))

-- the client's hop is connected; where it leads to the agent, a channel is wanted first
abbrev pub joined_by : Bool × RouteValue → Past → RouteRun
joined_by (true, r) p = record { route = r; past = record p { is_wanted = true } }
joined_by (false, r) p = record { route = r; past = record p { is_joined = true } }

abbrev pub earlier_of : Past → List (List Outgoing)
earlier_of p = if p.is_reached then p.earlier ++ p.agent.got ∷ [] else p.earlier

-- a channel that was refused gives the end of its stream
abbrev pub given_by : Bool → List Outgoing
given_by true = []
given_by false = end_of_stream ∷ []

abbrev pub reached_past : Bool → Past → Past
reached_past did p = record p {
  is_wanted = false;
  is_joined = true;
  is_reached = true;
  agent = record { gave = given_by did; got = []; is_lost = false; is_refused = not did };
  earlier = earlier_of p;
}

abbrev pub with_client : Talk → Past → Past
with_client talk p = record p { client = talk }

abbrev pub with_agent : Talk → Past → Past
with_agent talk p = record p { agent = talk }

abbrev pub gives : List Outgoing → Talk → Talk
gives outs talk = record talk { gave = talk.gave ++ outs }

abbrev pub gets : List Outgoing → Talk → Talk
gets outs talk = record talk { got = talk.got ++ outs }

-- a hop that is cut, where it is live, is lost to the client and to the agent at its ends
abbrev pub loses_if : Bool → Talk → Talk
loses_if true talk = record talk { is_lost = true }
loses_if false talk = talk

abbrev pub cut_past : ℕ → RouteValue → Past → Past
cut_past hop r p =
    record p { client = loses_if (is_live hop r && (hop == 0)) p.client; agent = loses_if (is_live hop r && (hop == last_of r)) p.agent }

abbrev pub after_call : Call → RouteRun → RouteRun
after_call joins r = if r.past.is_wanted || r.past.is_joined then r else joined_by (connected 0 r.route) r.past
after_call (reaches did) r = if is_waiting r then record { route = reached did r.route; past = reached_past did r.past } else r
after_call (sends_up outs) r =
    if r.past.is_joined then record { route = sent_up outs r.route; past = with_client (gives outs r.past.client) r.past } else r
after_call (sends_down outs) r =
    if r.past.is_reached then record { route = sent_down outs r.route; past = with_agent (gives outs r.past.agent) r.past } else r
after_call (arrives_up count) r =
    record { route = arrived_up count r.route; past = with_agent (gets (arriving count (flight_up r.route)) r.past.agent) r.past }
after_call (arrives_down count) r =
    record { route = arrived_down count r.route; past = with_client (gets (arriving count (flight_down r.route)) r.past.client) r.past }
after_call (delivers side at count) r = record r { route = delivered_at side at count r.route }
after_call (turns side at) r = record r { route = (turned side at r.route).1 }
after_call (cuts hop) r = record { route = (cut hop r.route).1; past = cut_past hop r.route r.past }

abbrev pub after_all : List Call → RouteRun → RouteRun
after_all [] r = r
after_all (call ∷ calls) r = after_all calls (after_call call r)
