-- A chain: a client, its way to the agent, and the numbers that its channels have there.
use Rattle.std.specs.Prelude.{ℕ, zero, suc, ◌+◌, ◌-◌, Bool, true, false, ◌&&◌, if◌then◌else◌, nat_lt, ◌==◌, List, [], ◌∷◌, ◌++◌, find, option_to_list, sum_by, Option, Some, None, option_map, is_some}
use Rattle.std.specs.List.{list_all}
use Rattle.channel_core.specs.EndValue.{EndValue, unless_spent}
use Rattle.channel_core.specs.declared.held.Outgoing.{Outgoing}
use Rattle.client_node.specs.ClientValue.{ClientValue}
use Rattle.cached_lines.specs.declared.what.CachedWhat.{CachedWhat}
use Rattle.client_node.specs.Client.{asked as client_asked, came, closed as client_closed, ended as client_ended, new_client, opened as client_opened, sent as client_sent, turned as client_turned, waiting_on}
use Rattle.agent_node.specs.AgentValue.{AgentValue}
use Rattle.agent_node.specs.Agent.{channel_of, delivered as agent_delivered, ended as agent_ended, opened as agent_opened, turned as agent_turned, waiting_at}
use Rattle.agent_node.specs.Channels.{changed, end_in}
use Rattle.agent_node.specs.declared.agent.Turned.{Turned}
use Rattle.agent_node.specs.declared.agent.Turned.TheVariants.{Nothing, Took}
use Rattle.target_hub.specs.declared.input.Input.{Input}
use Rattle.chain_route.specs.Lane.{arriving, size_in}
use Rattle.chain_route.specs.Passing.{most_bytes, most_waiting}
use Rattle.chain_route.specs.Route as route
use Rattle.chain_route.specs.Route.{flight_down, flight_up, is_live, last_of, new_route}
use Rattle.chain_route.specs.RouteValue.{RouteValue}
use Rattle.value_node.specs.declared.states.Side.TheVariants.{Below, Above}
use Rattle.chain_world.specs.ChainValue.{ChainValue}

abbrev pub new_chain : ℕ → ChainValue
new_chain adds = record { client = new_client; route = new_route adds; channel = None; earlier = [] }

abbrev pub is_opened : ChainValue → Bool
is_opened chain = is_some chain.client.channel

-- all channels that it had on the agent, the oldest first
abbrev pub channels_of : ChainValue → List ℕ
channels_of chain = chain.earlier ++ option_to_list chain.channel

-- what a step of a chain and the agent leaves of both
pub record Both : Type 0 where
  pub chain : ChainValue
  pub agent : AgentValue

abbrev pub both : ChainValue → AgentValue → Both
both chain agent = record { chain = chain; agent = agent }

-- ---- what an end queued is in flight at once

abbrev pub queue_of : {T : Type 0} → Option (EndValue T) → List Outgoing
queue_of None = []
queue_of (Some e) = unless_spent e [] e.queued

abbrev pub emptied : {T : Type 0} → EndValue T → EndValue T
emptied e = unless_spent e e (record e { queued = [] })

abbrev pub client_emptied : ClientValue → ClientValue
client_emptied c = record c { channel = option_map emptied c.channel }

abbrev pub carried_up : ChainValue → ChainValue
carried_up chain = record chain { client = client_emptied chain.client; route = route.sent_up (queue_of chain.client.channel) chain.route }

abbrev pub agent_emptied : ℕ → AgentValue → AgentValue
agent_emptied k a = record a { channels = changed k emptied a.channels }

-- what is queued for an earlier channel is dropped
abbrev pub all_dropped : List ℕ → AgentValue → AgentValue
all_dropped [] a = a
all_dropped (k ∷ channels) a = all_dropped channels (agent_emptied k a)

abbrev pub carried_from : Option ℕ → ChainValue → AgentValue → Both
carried_from None chain a = both chain a
carried_from (Some k) chain a =
    both (record chain { route = route.sent_down (queue_of (end_in (channel_of k a))) chain.route }) (agent_emptied k a)

abbrev pub carried_down : ChainValue → AgentValue → Both
carried_down chain a = carried_from chain.channel chain (all_dropped chain.earlier a)

-- ---- the client's steps

abbrev pub sent : List ℕ → List ℕ → List ℕ → ChainValue → ChainValue
sent service name body chain = carried_up (record chain { client = client_sent service name body chain.client })

abbrev pub closed : ChainValue → ChainValue
closed chain = carried_up (record chain { client = client_closed chain.client })

-- it asks its cache, and sends nothing
abbrev pub asked : CachedWhat → ChainValue → ChainValue
asked what chain = record chain { client = client_asked what chain.client }

abbrev pub turned_down : ChainValue → ChainValue
turned_down chain = carried_up (record chain { client = (client_turned chain.client).1 })

-- ---- connections

-- The client connects: to a value-add, or to the agent, which isn't done here
abbrev pub opened_by : Bool × RouteValue → ChainValue → Bool × ChainValue
opened_by (true, r) chain = (true, record chain { route = r })
opened_by (false, r) chain = (false, carried_up (record chain { route = r }))

abbrev pub opened : ChainValue → Bool × ChainValue
opened chain = opened_by (route.connected 0 chain.route) (record chain { client = client_opened chain.client })

-- the channel is this one from now on
abbrev pub numbered : Option ℕ → ChainValue → ChainValue
numbered channel chain = record chain { earlier = channels_of chain; channel = channel }

-- The way has reached the agent, which opens a channel under this number. Where it refuses, the end of the stream comes
-- down, and what goes up to that channel is dropped.
unfoldable pub reached : ℕ → ChainValue → AgentValue → Both
reached k chain a =
    let next = agent_opened k a in
    let with_number = numbered (Some k) chain in
    both (carried_up (record with_number { route = route.reached next.0 with_number.route })) next.1

-- no number is left for a channel: it is refused
abbrev pub none_reached : ChainValue → ChainValue
none_reached chain = let without = numbered None chain in carried_up (record without { route = route.reached false without.route })

-- a hop is lost, and both of its ends have ended
abbrev pub client_cut : ℕ → ChainValue → ChainValue
client_cut hop chain = if hop == 0 then record chain { client = client_ended chain.client } else chain

abbrev pub ended_from : Option ℕ → AgentValue → AgentValue
ended_from None a = a
ended_from (Some k) a = agent_ended k a

abbrev pub agent_cut : ℕ → ChainValue → AgentValue → AgentValue
agent_cut hop chain a = if hop == last_of chain.route then ended_from chain.channel a else a

abbrev pub cut_by : ℕ → Bool × RouteValue → ChainValue → AgentValue → Both
cut_by hop (false, r) chain a = both chain a
cut_by hop (true, r) chain a = both (client_cut hop (record chain { route = r })) (agent_cut hop (record chain { route = r }) a)

abbrev pub cut : ℕ → ChainValue → AgentValue → Both
cut hop chain a = cut_by hop (route.cut hop chain.route) chain a

-- ---- a piece arrives: parts of messages, each with its mark; nothing where the hop isn't live, or where 200 entries
-- wait

abbrev pub parts_came : List Outgoing → ClientValue → ClientValue
parts_came [] c = c
parts_came (part ∷ parts) c = parts_came parts (came part.bytes part.mark c)

abbrev pub parts_delivered : ℕ → List Outgoing → AgentValue → AgentValue
parts_delivered k [] a = a
parts_delivered k (part ∷ parts) a = parts_delivered k parts (agent_delivered k part.bytes a)

abbrev pub takes_down : ChainValue → Bool
takes_down chain = is_live 0 chain.route && nat_lt (waiting_on chain.client.channel) most_waiting

abbrev pub came_down : ℕ → ChainValue → ChainValue
came_down count chain = record chain {
  client = parts_came (arriving count (flight_down chain.route)) chain.client;
  route = route.arrived_down count chain.route;
}

abbrev pub delivered_down : ℕ → ChainValue → ChainValue
delivered_down count chain = if takes_down chain then carried_up (came_down count chain) else chain

abbrev pub takes_up : ℕ → ChainValue → AgentValue → Bool
takes_up k chain a = is_live (last_of chain.route) chain.route && nat_lt (waiting_at (channel_of k a)) most_waiting

abbrev pub came_up : ℕ → ℕ → ChainValue → AgentValue → Both
came_up k count chain a =
    carried_down (record chain { route = route.arrived_up count chain.route }) (parts_delivered k (arriving count (flight_up chain.route)) a)

abbrev pub delivered_to : Option ℕ → ℕ → ChainValue → AgentValue → Both
delivered_to None count chain a = both chain a
delivered_to (Some k) count chain a = if takes_up k chain a then came_up k count chain a else both chain a

abbrev pub delivered_up : ℕ → ChainValue → AgentValue → Both
delivered_up count chain a = delivered_to chain.channel count chain a

-- ---- the agent takes an entry of the oldest channel of the chain in which one waits

abbrev pub waits_at : AgentValue → ℕ → Bool
waits_at a k = nat_lt 0 (waiting_at (channel_of k a))

abbrev pub turning_or : Option ℕ → Option ℕ → Option ℕ
turning_or channel None = channel
turning_or channel (Some k) = Some k

abbrev pub turning : List ℕ → Option ℕ → AgentValue → Option ℕ
turning earlier channel a = turning_or channel (find (waits_at a) earlier)

abbrev pub input_of : Turned → Option Input
input_of Nothing = None
input_of (Took input) = input

abbrev pub turned_on : Option ℕ → AgentValue → Option Input × AgentValue
turned_on None a = (None, a)
turned_on (Some k) a = let next = agent_turned k a in (input_of next.0, next.1)

abbrev pub waiting_for : Option ℕ → AgentValue → ℕ
waiting_for None a = 0
waiting_for (Some k) a = waiting_at (channel_of k a)

abbrev pub waiting_up : List ℕ → Option ℕ → AgentValue → ℕ
waiting_up earlier channel a = sum_by (λ k. waiting_at (channel_of k a)) earlier + waiting_for channel a

-- ---- all that is in flight arrives, in pieces of at most 65,536 bytes, until 200 entries wait: as many pieces as there
-- are bytes and messages are enough

abbrev pub pieces_down : ℕ → ChainValue → ChainValue
pieces_down zero chain = chain
pieces_down (suc n) chain = pieces_down n (delivered_down most_bytes chain)

abbrev pub all_down : ChainValue → ChainValue
all_down chain = pieces_down (size_in (flight_down chain.route)) chain

abbrev pub pieces_up : ℕ → Both → Both
pieces_up zero b = b
pieces_up (suc n) b = pieces_up n (delivered_up most_bytes b.chain b.agent)

abbrev pub all_up : ChainValue → AgentValue → Both
all_up chain a = pieces_up (size_in (flight_up chain.route)) (both chain a)

-- the client takes all that waits
abbrev pub turns_down : ℕ → ChainValue → ChainValue
turns_down zero chain = chain
turns_down (suc n) chain = turns_down n (turned_down chain)

abbrev pub all_taken_down : ChainValue → ChainValue
all_taken_down chain = turns_down (waiting_on chain.client.channel) chain

-- ---- no byte is in flight, and no entry waits

abbrev pub none_waits : AgentValue → ℕ → Bool
none_waits a k = waiting_at (channel_of k a) == 0

abbrev pub is_last_quiet : Option ℕ → AgentValue → Bool
is_last_quiet None a = true
is_last_quiet (Some k) a = none_waits a k

abbrev pub is_quiet : ChainValue → AgentValue → Bool
is_quiet chain a =
    route.is_quiet chain.route && ((waiting_on chain.client.channel == 0) && (is_last_quiet chain.channel a && list_all (none_waits a) chain.earlier))

-- ---- a piece arrives at the node above a hop, or at the one below it

abbrev pub delivered_over : ℕ → ℕ → ChainValue → AgentValue → Both
delivered_over hop count chain a =
    if hop == last_of chain.route then delivered_up count chain a
    else both (record chain { route = route.delivered_at Below hop count chain.route }) a

abbrev pub delivered_under : ℕ → ℕ → ChainValue → ChainValue
delivered_under hop count chain =
    if hop == 0 then delivered_down count chain else record chain { route = route.delivered_at Above (hop - 1) count chain.route }
