-- A round goes on until all has arrived and was taken.
use Rattle.std.specs.Prelude.{ℕ, ◌≡◌, ◌-◌, ◌^◌, ◌<◌, ◌⊎◌, true, slice_get, Option, Some, None, IfSome}
use Rattle.std.specs.List.{AllByRecursion}
use Rattle.agent_node.specs.Agent.{channel_of, is_full, waiting_at as waiting_on_channel}
use Rattle.agent_node.specs.AgentValue.{AgentValue}
use Rattle.chain_route.specs.Route.{flight_down, flight_up, is_live, last_of}
use Rattle.chain_route.specs.Until.{HasArrived}
use Rattle.chain_world.specs.Chain.{Both, all_down, all_taken_down, all_up, channels_of, waiting_up}
use Rattle.chain_world.specs.ChainValue.{ChainValue}
use Rattle.chain_world.specs.World.{add_taken, agent_taken}
use Rattle.chain_world.specs.WorldValue.{WorldValue}
use Rattle.client_node.specs.Client.{waiting_on}
use Rattle.value_node.specs.Value.{turned, waiting_at}
use Rattle.value_node.specs.ValueValue.{ValueValue}
use Rattle.value_node.specs.declared.states.Side.{Side}
use Rattle.value_node.specs.declared.states.ValueTurn.TheVariants.{Nothing}

-- ---- arriving, at the client, and at the agent where the chain has a channel there

abbrev pub HasArrivedDown : ChainValue → Type 0
HasArrivedDown chain = HasArrived (flight_down chain.route) (waiting_on chain.client.channel) (is_live 0 chain.route)

abbrev pub HasArrivedUp : Both → Type 0
HasArrivedUp b = IfSome b.chain.channel (λ k. HasArrived (flight_up b.chain.route) (waiting_on_channel (channel_of k b.agent)) (is_live (last_of b.chain.route) b.chain.route))

-- ---- taking: the entries that wait are counted up to this

abbrev pub most_counted : ℕ
most_counted = 2 ^ 64 - 1

-- a value-add, by its chain and its place on it
abbrev pub add_in : ℕ → Option ChainValue → Option ValueValue
add_in add None = None
add_in add (Some chain) = slice_get chain.route.adds add

abbrev pub add_at : ℕ → ℕ → WorldValue → Option ValueValue
add_at at add w = add_in add (slice_get w.chains at)

-- it takes nothing more from this side: nothing waits there, or it is one that takes nothing from there
abbrev pub TakesNoMore : Side → ValueValue → Type 0
TakesNoMore side v = (turned side v).0 ≡ Nothing

-- nor does the agent on this chain: nothing waits in the chain's channels, or no further input has a position
abbrev pub AgentTakesNoMore : AgentValue → ChainValue → Type 0
AgentTakesNoMore a chain = (is_full a ≡ true) ⊎ (waiting_up chain.earlier chain.channel a ≡ 0)

-- ---- Whatever the chain and the world, in a round all that is in flight to a node has arrived, and the node has taken all.

pub record RoundsGoOn : Type 0 where
  pub down : (chain : ChainValue) → HasArrivedDown (all_down chain)
  pub up : (chain : ChainValue) (a : AgentValue) → HasArrivedUp (all_up chain a)
  pub client : (chain : ChainValue) → waiting_on chain.client.channel < most_counted → waiting_on (all_taken_down chain).client.channel ≡ 0
  pub adds : (at add : ℕ) (side : Side) (w : WorldValue) → IfSome (add_at at add w) (λ v. waiting_at side v.relay < most_counted)
      → IfSome (add_at at add (add_taken at add side w)) (TakesNoMore side)
  pub agent : (at : ℕ) (w : WorldValue) → IfSome (slice_get w.chains at) (λ chain. AllByRecursion (λ k. waiting_on_channel (channel_of k w.agent) < most_counted) (channels_of chain))
      → IfSome (slice_get (agent_taken at w).chains at) (AgentTakesNoMore (agent_taken at w).agent)
