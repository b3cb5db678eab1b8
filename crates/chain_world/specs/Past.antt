-- A world with its past: what a step does to the world, and the calls that the nodes get by it, which are written down. They are a
-- function of the step and the world before it. Each function here is named after the one that changes the chain or the world.
use Rattle.std.specs.Prelude.{◌≡◌, ℕ, zero, suc, ◌+◌, ◌-◌, ◌==◌, nat_lt, Bool, true, false, if◌then◌else◌, List, [], ◌∷◌, ◌++◌, length, map, slice_get, slice_set, Option, Some, None}
use Rattle.agent_node.specs.Agent as agent
use Rattle.agent_node.specs.Agent.{channel_of, ticked}
use Rattle.agent_node.specs.AgentValue.{AgentValue}
use Rattle.agent_node.specs.Channels.{end_in}
use Rattle.agent_node.specs.Runs.{Call as AgentCall}
use Rattle.agent_node.specs.Runs as agent_call
use Rattle.cached_lines.specs.declared.what.CachedWhat.{CachedWhat}
use Rattle.chain_route.specs.Hop.{lane_to}
use Rattle.chain_route.specs.Lane.{arriving, size_in}
use Rattle.chain_route.specs.Passing.{most_bytes}
use Rattle.chain_route.specs.Route as route
use Rattle.chain_route.specs.Route.{beside, flight_down, flight_up, last_of}
use Rattle.chain_route.specs.RouteValue.{RouteValue}
use Rattle.chain_route.specs.Runs.{Call as WayCall}
use Rattle.chain_route.specs.Runs as way_call
use Rattle.chain_route.specs.declared.hop.Hop.{Hop}
use Rattle.channel_core.specs.declared.held.Outgoing.{Outgoing}
use Rattle.client_node.specs.Client.{closed as client_closed, opened as client_opened, sent as client_sent, turned as client_turned, waiting_on}
use Rattle.client_node.specs.Runs.{Call as ClientCall}
use Rattle.client_node.specs.Runs as client_call
use Rattle.target_contexts.specs.declared.process.Image.{Image}
use Rattle.tcf_schedules.specs.Plan.{Plan, cached, close, cut as cut_plan, deliver, opens as opens_plan, rounds as rounds_plan, send, tick, times, turn}
use Rattle.tcf_values.specs.declared.ids.ContextId.{ContextId}
use Rattle.value_node.specs.ValueValue.{ValueValue}
use Rattle.value_node.specs.declared.states.Side.{Side}
use Rattle.value_node.specs.declared.states.Side.TheVariants.{Below, Above}
use Rattle.chain_world.specs.Chain as chain
use Rattle.chain_world.specs.Chain.{is_opened, queue_of, takes_down, takes_up, turned_on, turning}
use Rattle.chain_world.specs.ChainValue.{ChainValue}
use Rattle.chain_world.specs.World as world
use Rattle.chain_world.specs.World.{adds_in, new_world, repeated, waiting_at_add, waiting_in_chain, with_chain}
use Rattle.chain_world.specs.WorldValue.{WorldValue}

-- ---- the past

-- of a chain: the calls that its client got, and those that its way got, in order
pub record ChainPast : Type 0 where
  pub calls : List ClientCall
  pub ways : List WayCall

-- of a world: the calls that its agent got, and what its chains got
pub record Past : Type 0 where
  pub agent : List AgentCall
  pub chains : List ChainPast

-- of a chain and the agent
pub record BothPast : Type 0 where
  pub agent : List AgentCall
  pub chain : ChainPast

-- before the first step
abbrev pub no_past : List ℕ → Past
no_past adds = record { agent = []; chains = map (λ n. record { calls = []; ways = [] }) adds }

-- ---- the calls that were written down, and more

abbrev pub client_gets : List ClientCall → ChainPast → ChainPast
client_gets calls p = record p { calls = p.calls ++ calls }

abbrev pub way_gets : WayCall → ChainPast → ChainPast
way_gets call p = record p { ways = p.ways ++ call ∷ [] }

abbrev pub agent_gets : List AgentCall → Past → Past
agent_gets calls p = record p { agent = p.agent ++ calls }

-- ---- what a node queued is given out, a message with each call

abbrev pub giving : List Outgoing → List ClientCall
giving queue = map (λ out. client_call.gives) queue

abbrev pub giving_to : ℕ → List Outgoing → List AgentCall
giving_to k queue = map (λ out. agent_call.gives k) queue

-- and goes up the way
abbrev pub carried_up : ChainValue → ChainPast → ChainPast
carried_up c p =
    let queue = queue_of c.client.channel in record { calls = p.calls ++ giving queue; ways = p.ways ++ way_call.sends_up queue ∷ [] }

-- or it is dropped, and to the last channel it goes down the way
abbrev pub all_dropped : List ℕ → AgentValue → List AgentCall → List AgentCall
all_dropped [] a calls = calls
all_dropped (k ∷ channels) a calls =
    all_dropped channels (chain.agent_emptied k a) (calls ++ giving_to k (queue_of (end_in (channel_of k a))))

abbrev pub carried_from : Option ℕ → AgentValue → BothPast → BothPast
carried_from None a b = b
carried_from (Some k) a b =
    let queue = queue_of (end_in (channel_of k a)) in
    record { agent = b.agent ++ giving_to k queue; chain = way_gets (way_call.sends_down queue) b.chain }

abbrev pub carried_down : ChainValue → AgentValue → BothPast → BothPast
carried_down c a b = carried_from c.channel (chain.all_dropped c.earlier a) (record b { agent = all_dropped c.earlier a b.agent })

-- ---- the client's steps

abbrev pub sent : List ℕ → List ℕ → List ℕ → ChainValue → ChainPast → ChainPast
sent service name body c p =
    carried_up (record c { client = client_sent service name body c.client }) (client_gets (client_call.sends service name body ∷ []) p)

abbrev pub closed : ChainValue → ChainPast → ChainPast
closed c p = carried_up (record c { client = client_closed c.client }) (client_gets (client_call.closes ∷ []) p)

abbrev pub asked : CachedWhat → ChainValue → ChainPast → ChainPast
asked what c p = client_gets (client_call.asks what ∷ []) p

abbrev pub turned_down : ChainValue → ChainPast → ChainPast
turned_down c p = carried_up (record c { client = (client_turned c.client).1 }) (client_gets (client_call.turns ∷ []) p)

-- ---- connections

abbrev pub opened_by : Bool × RouteValue → ChainValue → ChainPast → ChainPast
opened_by (true, r) c p = p
opened_by (false, r) c p = carried_up c p

abbrev pub opened : ChainValue → ChainPast → ChainPast
opened c p =
    opened_by (route.connected 0 c.route) (record c { client = client_opened c.client }) (way_gets way_call.joins (client_gets (client_call.opens ∷ []) p))

-- the agent opened a channel, or refused it
abbrev pub reached : Bool → ChainValue → ChainPast → ChainPast
reached did c p = carried_up c (way_gets (way_call.reaches did) p)

-- a hop is lost
abbrev pub client_cut : ℕ → ChainPast → ChainPast
client_cut hop p = if hop == 0 then client_gets (client_call.bytes_end ∷ []) p else p

abbrev pub ended_from : Option ℕ → List AgentCall → List AgentCall
ended_from None calls = calls
ended_from (Some k) calls = calls ++ agent_call.bytes_end k ∷ []

abbrev pub agent_cut : ℕ → ChainValue → List AgentCall → List AgentCall
agent_cut hop c calls = if hop == last_of c.route then ended_from c.channel calls else calls

abbrev pub cut_by : ℕ → Bool × RouteValue → ChainValue → BothPast → BothPast
cut_by hop (false, r) c b = b
cut_by hop (true, r) c b = record { agent = agent_cut hop (record c { route = r }) b.agent; chain = way_gets (way_call.cuts hop) (client_cut hop b.chain) }

abbrev pub cut : ℕ → ChainValue → AgentValue → BothPast → BothPast
cut hop c a b = cut_by hop (route.cut hop c.route) c b

-- ---- a piece arrives, a part of a message with each call

abbrev pub coming : List Outgoing → List ClientCall
coming parts = map (λ part. client_call.comes part.bytes part.mark) parts

abbrev pub coming_to : ℕ → List Outgoing → List AgentCall
coming_to k parts = map (λ part. agent_call.comes k part.bytes) parts

abbrev pub came_down : ℕ → ChainValue → ChainPast → ChainPast
came_down count c p = way_gets (way_call.arrives_down count) (client_gets (coming (arriving count (flight_down c.route))) p)

abbrev pub delivered_down : ℕ → ChainValue → ChainPast → ChainPast
delivered_down count c p = if takes_down c then carried_up (chain.came_down count c) (came_down count c p) else p

abbrev pub came_up : ℕ → ℕ → ChainValue → AgentValue → BothPast → BothPast
came_up k count c a b =
    let parts = arriving count (flight_up c.route) in
    carried_down (record c { route = route.arrived_up count c.route }) (chain.parts_delivered k parts a)
    (record { agent = b.agent ++ coming_to k parts; chain = way_gets (way_call.arrives_up count) b.chain })

abbrev pub delivered_to : Option ℕ → ℕ → ChainValue → AgentValue → BothPast → BothPast
delivered_to None count c a b = b
delivered_to (Some k) count c a b = if takes_up k c a then came_up k count c a b else b

abbrev pub delivered_up : ℕ → ChainValue → AgentValue → BothPast → BothPast
delivered_up count c a b = delivered_to c.channel count c a b

-- at the node above a hop, or at the one below it
abbrev pub delivered_over : ℕ → ℕ → ChainValue → AgentValue → BothPast → BothPast
delivered_over hop count c a b =
    if hop == last_of c.route then delivered_up count c a b
    else record b { chain = way_gets (way_call.delivers Below hop count) b.chain }

abbrev pub delivered_under : ℕ → ℕ → ChainValue → ChainPast → ChainPast
delivered_under hop count c p =
    if hop == 0 then delivered_down count c p else way_gets (way_call.delivers Above (hop - 1) count) p

-- ---- all that is in flight arrives, and the client takes all that waits

abbrev pub pieces_down : ℕ → ChainValue → ChainPast → ChainPast
pieces_down zero c p = p
pieces_down (suc n) c p = pieces_down n (chain.delivered_down most_bytes c) (delivered_down most_bytes c p)

abbrev pub all_down : ChainValue → ChainPast → ChainPast
all_down c p = pieces_down (size_in (flight_down c.route)) c p

abbrev pub turns_down : ℕ → ChainValue → ChainPast → ChainPast
turns_down zero c p = p
turns_down (suc n) c p = turns_down n (chain.turned_down c) (turned_down c p)

abbrev pub all_taken_down : ChainValue → ChainPast → ChainPast
all_taken_down c p = let next = chain.all_down c in turns_down (waiting_on next.client.channel) next (all_down c p)

abbrev pub pieces_up : ℕ → ChainValue → AgentValue → BothPast → BothPast
pieces_up zero c a b = b
pieces_up (suc n) c a b = let next = chain.delivered_up most_bytes c a in pieces_up n next.chain next.agent (delivered_up most_bytes c a b)

abbrev pub all_up : ChainValue → AgentValue → BothPast → BothPast
all_up c a b = pieces_up (size_in (flight_up c.route)) c a b

-- at a value-add: as many pieces as there are bytes and messages
abbrev pub pieces_for : Side → Option ValueValue → Option Hop → ℕ
pieces_for side (Some v) (Some hop) = size_in (lane_to side hop)
pieces_for side _ _ = 0

abbrev pub pieces_to : ℕ → Side → ℕ → ChainPast → ChainPast
pieces_to zero side add p = p
pieces_to (suc n) side add p = pieces_to n side add (way_gets (way_call.delivers side add most_bytes) p)

abbrev pub all_to_add : Side → ℕ → ChainValue → ChainPast → ChainPast
all_to_add side add c p = pieces_to (pieces_for side (slice_get c.route.adds add) (slice_get c.route.hops (beside side add))) side add p

-- ---- the past of the chain at a place, by the chain before the step; and with it that of the agent

abbrev pub on_some : (ChainValue → ChainPast → ChainPast) → ℕ → Option ChainValue → Option ChainPast → Past → Past
on_some change at None q p = p
on_some change at (Some c) None p = p
on_some change at (Some c) (Some q) p = record p { chains = slice_set p.chains at (change c q) }

abbrev pub on_chain : (ChainValue → ChainPast → ChainPast) → ℕ → WorldValue → Past → Past
on_chain change at w p = on_some change at (slice_get w.chains at) (slice_get p.chains at) p

abbrev pub with_both : ℕ → BothPast → Past → Past
with_both at b p = record { agent = b.agent; chains = slice_set p.chains at b.chain }

abbrev pub with_some : (ChainValue → AgentValue → BothPast → BothPast) → ℕ → Option ChainValue → Option ChainPast → AgentValue → Past → Past
with_some change at None q a p = p
with_some change at (Some c) None a p = p
with_some change at (Some c) (Some q) a p = with_both at (change c a (record { agent = p.agent; chain = q })) p

abbrev pub with_agent : (ChainValue → AgentValue → BothPast → BothPast) → ℕ → WorldValue → Past → Past
with_agent change at w p = with_some change at (slice_get w.chains at) (slice_get p.chains at) w.agent p

-- ---- what the agent queued for each chain is in flight at once

abbrev pub all_carried : List ChainValue → AgentValue → List AgentCall → List ChainPast → Past
all_carried [] a calls pasts = record { agent = calls; chains = pasts }
all_carried (c ∷ chains) a calls [] = record { agent = calls; chains = [] }
all_carried (c ∷ chains) a calls (q ∷ pasts) =
    let b = carried_down c a (record { agent = calls; chain = q }) in
    let rest = all_carried chains (chain.carried_down c a).agent b.agent pasts in
    record { agent = rest.agent; chains = b.chain ∷ rest.chains }

abbrev pub carried : WorldValue → Past → Past
carried w p = all_carried w.chains w.agent p.agent p.chains

-- ---- the way of a chain has reached the agent

-- the world where that has opened the channel, or refused it, and nothing is carried yet
abbrev pub reached_world : ℕ → ℕ → ChainValue → WorldValue → WorldValue
reached_world k at c w =
    let did = (agent.opened k w.agent).0 in
    world.with_input (world.opening did k) (record (world.with_both at (chain.reached k c w.agent) w) { next = world.after_number k })

abbrev pub reached_from : ℕ → ℕ → Option ChainValue → WorldValue → Past → Past
reached_from k at None w p = p
reached_from k at (Some c) w p =
    let did = (agent.opened k w.agent).0 in
    carried (reached_world k at c w) (agent_gets (agent_call.opens k ∷ []) (on_some (reached did) at (Some c) (slice_get p.chains at) p))

abbrev pub reached_by : Option ℕ → ℕ → WorldValue → Past → Past
reached_by None at w p = on_chain (reached false) at w p
reached_by (Some k) at w p = reached_from k at (slice_get w.chains at) w p

abbrev pub reached_if : ℕ → Bool × ChainValue → WorldValue → Past → Past
reached_if at (false, c) w p = p
reached_if at (true, c) w p = reached_by w.next at (with_chain at c w) p

abbrev pub connected_at : ℕ → ChainValue → WorldValue → Past → Past
connected_at at c w p = reached_if at (chain.opened c) w (on_chain opened at w p)

abbrev pub opened_from : ℕ → Option ChainValue → WorldValue → Past → Past
opened_from at None w p = p
opened_from at (Some c) w p = if is_opened c then p else connected_at at c w p

abbrev pub opened_at : ℕ → WorldValue → Past → Past
opened_at at w p = opened_from at (slice_get w.chains at) w p

-- ---- turns and ticks

abbrev pub add_turned : ℕ → ℕ → Side → Option ChainValue → WorldValue → Past → Past
add_turned at add side None w p = p
add_turned at add side (Some c) w p =
    reached_if at (world.with_route (route.turned side add c.route) c) w (on_chain (λ d q. way_gets (way_call.turns side add) q) at w p)

abbrev pub turn_gets : Option ℕ → Past → Past
turn_gets None p = p
turn_gets (Some k) p = agent_gets (agent_call.turns k ∷ []) p

abbrev pub agent_turned : Option ChainValue → WorldValue → Past → Past
agent_turned None w p = p
agent_turned (Some c) w p =
    let channel = turning c.earlier c.channel w.agent in
    let next = turned_on channel w.agent in carried (world.with_input next.0 (record w { agent = next.1 })) (turn_gets channel p)

abbrev pub turned_up_at : ℕ → ℕ → WorldValue → Past → Past
turned_up_at at node w p =
    if node == 0 then p
    else if nat_lt (node - 1) (adds_in (slice_get w.chains at)) then add_turned at (node - 1) Below (slice_get w.chains at) w p
    else agent_turned (slice_get w.chains at) w p

abbrev pub turned_down_at : ℕ → ℕ → WorldValue → Past → Past
turned_down_at at node w p =
    if node == 0 then on_chain turned_down at w p else add_turned at (node - 1) Above (slice_get w.chains at) w p

abbrev pub turned_at : ℕ → ℕ → Bool → WorldValue → Past → Past
turned_at at node true w p = turned_up_at at node w p
turned_at at node false w p = turned_down_at at node w p

abbrev pub ticked_in : ContextId → WorldValue → Past → Past
ticked_in thread w p =
    let next = ticked thread w.agent in
    carried (world.with_input (world.tick_of next.0 thread) (record w { agent = next.1 })) (agent_gets (agent_call.ticks thread ∷ []) p)

abbrev pub delivered_at : ℕ → ℕ → Bool → ℕ → WorldValue → Past → Past
delivered_at at hop true count w p = with_agent (delivered_over hop count) at w p
delivered_at at hop false count w p = on_chain (delivered_under hop count) at w p

-- ---- a world with its past

pub record WorldRun : Type 0 where
  pub world : WorldValue
  pub past : Past

abbrev pub new_run : List Image → List ℕ → WorldRun
new_run images adds = record { world = new_world images adds; past = no_past adds }

-- a step does so, and the calls are written down
abbrev pub steps : (WorldValue → WorldValue) → (WorldValue → Past → Past) → WorldRun → WorldRun
steps step note r = record { world = step r.world; past = note r.world r.past }

-- ---- rounds

abbrev pub turn_of_add : ℕ → ℕ → Side → WorldRun → WorldRun
turn_of_add at add side r = steps (world.turn_of_add at add side) (λ w p. add_turned at add side (slice_get w.chains at) w p) r

abbrev pub turn_of_agent : ℕ → WorldRun → WorldRun
turn_of_agent at r = steps (world.turn_of_agent at) (λ w p. agent_turned (slice_get w.chains at) w p) r

abbrev pub add_taken : ℕ → ℕ → Side → WorldRun → WorldRun
add_taken at add side r = repeated (waiting_at_add side add (slice_get r.world.chains at)) (turn_of_add at add side) r

abbrev pub add_rounded : ℕ → ℕ → Side → WorldRun → WorldRun
add_rounded at add side r =
    add_taken at add side (steps (world.on_chain (world.all_to_add side add) at) (on_chain (all_to_add side add) at) r)

abbrev pub adds_rounded : ℕ → ℕ → ℕ → WorldRun → WorldRun
adds_rounded zero add at r = r
adds_rounded (suc n) add at r = adds_rounded n (add + 1) at (add_rounded at add Below r)

abbrev pub rounded_up : ℕ → WorldRun → WorldRun
rounded_up at r =
    steps (world.with_agent chain.all_up at) (with_agent all_up at) (adds_rounded (adds_in (slice_get r.world.chains at)) 0 at r)

abbrev pub rounded_down : ℕ → ℕ → WorldRun → WorldRun
rounded_down zero at r = r
rounded_down (suc n) at r = rounded_down n at (add_rounded at n Above r)

abbrev pub agent_taken : ℕ → WorldRun → WorldRun
agent_taken at r = repeated (waiting_in_chain (slice_get r.world.chains at) r.world) (turn_of_agent at) r

abbrev pub all_round_down : ℕ → WorldRun → WorldRun
all_round_down at r = rounded_down (adds_in (slice_get r.world.chains at)) at r

abbrev pub round_of : ℕ → WorldRun → WorldRun
round_of at r =
    steps (world.on_chain (λ c. chain.all_taken_down (chain.all_down c)) at) (on_chain all_taken_down at)
    (all_round_down at (agent_taken at (rounded_up at r)))

abbrev pub round_from : ℕ → Option ChainValue → WorldRun → WorldRun
round_from at None r = r
round_from at (Some c) r = if is_opened c then round_of at r else r

abbrev pub round_at : ℕ → WorldRun → WorldRun
round_at at r = round_from at (slice_get r.world.chains at) r

abbrev pub round_all : ℕ → ℕ → WorldRun → WorldRun
round_all zero at r = r
round_all (suc n) at r = round_all n (at + 1) (round_at at r)

abbrev pub rounds : ℕ → WorldRun → WorldRun
rounds zero r = r
rounds (suc n) r = rounds n (round_all (length r.world.chains) 0 r)

-- ---- what a step of a schedule means

abbrev pub played : Plan → WorldRun → WorldRun
played (opens_plan at) r = steps (world.opened_at at) (opened_at at) r
played (send at service name body) r = steps (world.sent_at at service name body) (on_chain (sent service name body) at) r
played (deliver at hop up count) r = steps (world.delivered_at at hop up count) (delivered_at at hop up count) r
played (turn at node up) r = steps (world.turned_at at node up) (turned_at at node up) r
played (tick thread) r = steps (world.ticked_in thread) (ticked_in thread) r
played (close at) r = steps (world.closed_at at) (on_chain closed at) r
played (cut_plan at hop) r = steps (world.cut_at at hop) (with_agent (cut hop) at) r
played (cached at what) r = steps (world.asked_at at what) (on_chain (asked what) at) r
played (rounds_plan count) r = rounds count r
played (times count plan) r = repeated count (played plan) r

abbrev pub run : List Plan → WorldRun → WorldRun
run [] r = r
run (plan ∷ plans) r = run plans (played plan r)

-- the past of the world that this schedule brings about
abbrev pub past_of : List Image → List ℕ → List Plan → Past
past_of images adds plans = (run plans (new_run images adds)).past

-- ---- Whatever the steps of these chains are, the world is the one that they bring about.

abbrev pub WorldIsPlayed : Type 0
WorldIsPlayed = (images : List Image) (adds : List ℕ) (plans : List Plan) →
    (run plans (new_run images adds)).world ≡ world.run plans (new_world images adds)
