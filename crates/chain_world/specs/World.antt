-- What each step of a schedule does to the world.
use Rattle.std.specs.Prelude.{ℕ, zero, suc, ◌+◌, ◌^◌, ◌-◌, ◌==◌, nat_lt, Bool, true, false, if◌then◌else◌, List, [], ◌∷◌, ◌++◌, length, map, slice_get, slice_set, Option, Some, None}
use Rattle.agent_node.specs.AgentValue.{AgentValue}
use Rattle.agent_node.specs.Agent.{new_agent, ticked}
use Rattle.target_contexts.specs.declared.process.Image.{Image}
use Rattle.target_hub.specs.declared.input.Input.{Input}
use Rattle.target_hub.specs.declared.input.Input.TheVariants.{Opened, Ticked}
use Rattle.cached_lines.specs.Asked.{IsAsked}
use Rattle.cached_lines.specs.declared.what.CachedWhat.{CachedWhat}
use Rattle.tcf_values.specs.declared.ids.ContextId.{ContextId}
use Rattle.chain_route.specs.Route.{all_delivered_at, last_of, turned as route_turned, waiting_in}
use Rattle.chain_route.specs.RouteValue.{RouteValue}
use Rattle.value_node.specs.declared.states.Side.{Side}
use Rattle.value_node.specs.declared.states.Side.TheVariants.{Below, Above}
use Rattle.chain_world.specs.Chain.{Both, all_down, all_taken_down, all_up, asked, carried_down, closed, cut, delivered_over, delivered_under, is_opened, is_quiet, new_chain, none_reached, opened, reached, sent, turned_down, turned_on, turning, waiting_up}
use Rattle.agent_node.specs.Agent as agent
use Rattle.tcf_message.specs.Message.{HasNoZero}
use Rattle.tcf_schedules.specs.Plan.{Plan, cached, close, cut as cut_plan, deliver, opens, rounds as rounds_plan, send, tick, times, turn}
use Rattle.tcf_schedules.specs.declared.schedule.ChainHead.{ChainHead}
use Rattle.tcf_schedules.specs.declared.schedule.NamedImage.{NamedImage}
use Rattle.tcf_text.specs.declared.log.LogLine.{LogLine}
use Rattle.chain_world.specs.ChainValue.{ChainValue}
use Rattle.chain_world.specs.WorldValue.{WorldValue}

-- chains with so many value-adds
abbrev pub new_chains : List ℕ → List ChainValue
new_chains adds = map new_chain adds

-- with these images and these chains, and nothing opened
abbrev pub new_world : List Image → List ℕ → WorldValue
new_world images adds = record { agent = new_agent images; next = Some 0; chains = new_chains adds; history = []; is_spent = false }

-- the value-adds of the chains of a header
abbrev pub adds_of : List ChainHead → List ℕ
adds_of heads = map (λ h. h.adds) heads

-- the images of a schedule, as the target has them
abbrev pub image_of : NamedImage → Image
image_of named = record { name = named.name; bytes = named.bytes }

abbrev pub images_of : List NamedImage → List Image
images_of named = map image_of named

-- ---- a chain at a place changes; where there is none, nothing does

abbrev pub with_chain : ℕ → ChainValue → WorldValue → WorldValue
with_chain at chain w = record w { chains = slice_set w.chains at chain }

abbrev pub on_some : (ChainValue → ChainValue) → ℕ → Option ChainValue → WorldValue → WorldValue
on_some change at None w = w
on_some change at (Some chain) w = with_chain at (change chain) w

abbrev pub on_chain : (ChainValue → ChainValue) → ℕ → WorldValue → WorldValue
on_chain change at w = on_some change at (slice_get w.chains at) w

-- and the agent with it
abbrev pub with_both : ℕ → Both → WorldValue → WorldValue
with_both at b w = record w { chains = slice_set w.chains at b.chain; agent = b.agent }

abbrev pub with_some : (ChainValue → AgentValue → Both) → ℕ → Option ChainValue → WorldValue → WorldValue
with_some change at None w = w
with_some change at (Some chain) w = with_both at (change chain w.agent) w

abbrev pub with_agent : (ChainValue → AgentValue → Both) → ℕ → WorldValue → WorldValue
with_agent change at w = with_some change at (slice_get w.chains at) w

-- ---- what the agent queued for each chain is in flight at once

pub record All : Type 0 where
  pub chains : List ChainValue
  pub agent : AgentValue

abbrev pub all_carried : List ChainValue → AgentValue → All
all_carried [] a = record { chains = []; agent = a }
all_carried (chain ∷ chains) a =
    let b = carried_down chain a in
    let rest = all_carried chains b.agent in
    record { chains = b.chain ∷ rest.chains; agent = rest.agent }

unfoldable pub carried : WorldValue → WorldValue
carried w = let all = all_carried w.chains w.agent in record w { chains = all.chains; agent = all.agent }

abbrev pub with_input : Option Input → WorldValue → WorldValue
with_input None w = w
with_input (Some input) w = record w { history = w.history ++ input ∷ [] }

-- ---- the steps

-- the number behind this one, as far as a u64 counts
abbrev pub after_number : ℕ → Option ℕ
after_number k = if nat_lt (k + 1) (2 ^ 64) then Some (k + 1) else None

abbrev pub opening : Bool → ℕ → Option Input
opening true k = Some (Opened k)
opening false k = None

-- the way of a chain has reached the agent, which opens the next number; where none is left the channel is refused
abbrev pub reached_from : ℕ → ℕ → Option ChainValue → WorldValue → WorldValue
reached_from k at None w = w
reached_from k at (Some chain) w =
    let did = (agent.opened k w.agent).0 in
    carried (with_input (opening did k) (record (with_both at (reached k chain w.agent) w) { next = after_number k }))

abbrev pub reached_with : ℕ → ℕ → WorldValue → WorldValue
reached_with k at w = reached_from k at (slice_get w.chains at) w

abbrev pub reached_by : Option ℕ → ℕ → WorldValue → WorldValue
reached_by None at w = on_chain none_reached at w
reached_by (Some k) at w = reached_with k at w

abbrev pub reached_at : ℕ → WorldValue → WorldValue
reached_at at w = reached_by w.next at w

-- what changed the chain at a place says whether it has reached the agent
abbrev pub reached_if : ℕ → Bool × ChainValue → WorldValue → WorldValue
reached_if at (false, chain) w = with_chain at chain w
reached_if at (true, chain) w = reached_at at (with_chain at chain w)

-- the client connects; a second time nothing happens
abbrev pub connected_at : ℕ → ChainValue → WorldValue → WorldValue
connected_at at chain w = reached_if at (opened chain) w

abbrev pub opened_from : ℕ → Option ChainValue → WorldValue → WorldValue
opened_from at None w = w
opened_from at (Some chain) w = if is_opened chain then w else connected_at at chain w

abbrev pub opened_at : ℕ → WorldValue → WorldValue
opened_at at w = opened_from at (slice_get w.chains at) w

abbrev pub sent_at : ℕ → List ℕ → List ℕ → List ℕ → WorldValue → WorldValue
sent_at at service name body w = on_chain (sent service name body) at w

abbrev pub delivered_at : ℕ → ℕ → Bool → ℕ → WorldValue → WorldValue
delivered_at at hop true count w = with_agent (delivered_over hop count) at w
delivered_at at hop false count w = on_chain (delivered_under hop count) at w

-- a value-add takes an entry
abbrev pub with_route : Bool × RouteValue → ChainValue → Bool × ChainValue
with_route next chain = (next.0, record chain { route = next.1 })

abbrev pub add_turned : ℕ → ℕ → Side → Option ChainValue → WorldValue → WorldValue
add_turned at add side None w = w
add_turned at add side (Some chain) w = reached_if at (with_route (route_turned side add chain.route) chain) w

-- the agent takes an entry, and what it told is in flight
abbrev pub agent_turned : ℕ → Option ChainValue → WorldValue → WorldValue
agent_turned at None w = w
agent_turned at (Some chain) w =
    let next = turned_on (turning chain.earlier chain.channel w.agent) w.agent in carried (with_input next.0 (record w { agent = next.1 }))

-- how many value-adds the chain has
abbrev pub adds_in : Option ChainValue → ℕ
adds_in None = 0
adds_in (Some chain) = last_of chain.route

-- node 0 is the client, then come the value-adds, and behind them the agent
abbrev pub turned_up_at : ℕ → ℕ → WorldValue → WorldValue
turned_up_at at node w =
    if node == 0 then w
    else if nat_lt (node - 1) (adds_in (slice_get w.chains at)) then add_turned at (node - 1) Below (slice_get w.chains at) w
    else agent_turned at (slice_get w.chains at) w

abbrev pub turned_down_at : ℕ → ℕ → WorldValue → WorldValue
turned_down_at at node w =
    if node == 0 then on_chain turned_down at w else add_turned at (node - 1) Above (slice_get w.chains at) w

abbrev pub turned_at : ℕ → ℕ → Bool → WorldValue → WorldValue
turned_at at node true w = turned_up_at at node w
turned_at at node false w = turned_down_at at node w

abbrev pub tick_of : Bool → ContextId → Option Input
tick_of true thread = Some (Ticked thread)
tick_of false thread = None

abbrev pub ticked_in : ContextId → WorldValue → WorldValue
ticked_in thread w = let next = ticked thread w.agent in carried (with_input (tick_of next.0 thread) (record w { agent = next.1 }))

abbrev pub closed_at : ℕ → WorldValue → WorldValue
closed_at at w = on_chain closed at w

abbrev pub asked_at : ℕ → CachedWhat → WorldValue → WorldValue
asked_at at what w = on_chain (asked what) at w

abbrev pub cut_at : ℕ → ℕ → WorldValue → WorldValue
cut_at at hop w = with_agent (cut hop) at w

-- ---- rounds: on each opened chain, in order, all that is in flight arrives and is taken, hop by hop, first up and then down

abbrev pub repeated : {A : Type 0} → ℕ → (A → A) → A → A
repeated zero step x = x
repeated (suc n) step x = repeated n step (step x)

abbrev pub turn_of_add : ℕ → ℕ → Side → WorldValue → WorldValue
turn_of_add at add side w = add_turned at add side (slice_get w.chains at) w

abbrev pub turn_of_agent : ℕ → WorldValue → WorldValue
turn_of_agent at w = agent_turned at (slice_get w.chains at) w

abbrev pub all_to_add : Side → ℕ → ChainValue → ChainValue
all_to_add side add chain = record chain { route = all_delivered_at side add chain.route }

abbrev pub waiting_at_add : Side → ℕ → Option ChainValue → ℕ
waiting_at_add side add None = 0
waiting_at_add side add (Some chain) = waiting_in side add chain.route

-- all that is in flight to a side of a value-add arrives, and it takes all that waits there
abbrev pub add_taken : ℕ → ℕ → Side → WorldValue → WorldValue
add_taken at add side w = repeated (waiting_at_add side add (slice_get w.chains at)) (turn_of_add at add side) w

abbrev pub add_rounded : ℕ → ℕ → Side → WorldValue → WorldValue
add_rounded at add side w = add_taken at add side (on_chain (all_to_add side add) at w)

-- the value-adds from a place on, so many of them, and then the agent
abbrev pub adds_rounded : ℕ → ℕ → ℕ → WorldValue → WorldValue
adds_rounded zero add at w = w
adds_rounded (suc n) add at w = adds_rounded n (add + 1) at (add_rounded at add Below w)

abbrev pub rounded_up : ℕ → WorldValue → WorldValue
rounded_up at w = with_agent all_up at (adds_rounded (adds_in (slice_get w.chains at)) 0 at w)

-- the value-adds below a place, from the highest on
abbrev pub rounded_down : ℕ → ℕ → WorldValue → WorldValue
rounded_down zero at w = w
rounded_down (suc n) at w = rounded_down n at (add_rounded at n Above w)

abbrev pub waiting_in_chain : Option ChainValue → WorldValue → ℕ
waiting_in_chain None w = 0
waiting_in_chain (Some chain) w = waiting_up chain.earlier chain.channel w.agent

abbrev pub agent_taken : ℕ → WorldValue → WorldValue
agent_taken at w = repeated (waiting_in_chain (slice_get w.chains at) w) (turn_of_agent at) w

abbrev pub all_round_down : ℕ → WorldValue → WorldValue
all_round_down at w = rounded_down (adds_in (slice_get w.chains at)) at w

abbrev pub round_of : ℕ → WorldValue → WorldValue
round_of at w = on_chain (λ chain. all_taken_down (all_down chain)) at (all_round_down at (agent_taken at (rounded_up at w)))

abbrev pub round_from : ℕ → Option ChainValue → WorldValue → WorldValue
round_from at None w = w
round_from at (Some chain) w = if is_opened chain then round_of at w else w

abbrev pub round_at : ℕ → WorldValue → WorldValue
round_at at w = round_from at (slice_get w.chains at) w

-- the chains from a place on, so many of them
abbrev pub round_all : ℕ → ℕ → WorldValue → WorldValue
round_all zero at w = w
round_all (suc n) at w = round_all n (at + 1) (round_at at w)

abbrev pub rounds : ℕ → WorldValue → WorldValue
rounds zero w = w
rounds (suc n) w = rounds n (round_all (length w.chains) 0 w)

-- ---- what a step of a schedule means

abbrev pub played : Plan → WorldValue → WorldValue
played (opens at) w = opened_at at w
played (send at service name body) w = sent_at at service name body w
played (deliver at hop up count) w = delivered_at at hop up count w
played (turn at node up) w = turned_at at node up w
played (tick thread) w = ticked_in thread w
played (close at) w = closed_at at w
played (cut_plan at hop) w = cut_at at hop w
played (cached at what) w = asked_at at what w
played (rounds_plan count) w = rounds count w
played (times count plan) w = repeated count (played plan) w

abbrev pub IsNotRepeated : Plan → Type 0
IsNotRepeated (times count plan) = ⊥
IsNotRepeated plan = Unit {0}

abbrev pub IsSingle : Plan → Type 0
IsSingle (rounds_plan count) = ⊥
IsSingle (times count plan) = ⊥
IsSingle plan = Unit {0}

-- what is sent has no zero byte, what is asked has a form, and what is repeated is a single step
abbrev pub IsPlayable : Plan → Type 0
IsPlayable (opens at) = Unit {0}
IsPlayable (send at service name body) = HasNoZero service × HasNoZero name
IsPlayable (deliver at hop up count) = Unit {0}
IsPlayable (turn at node up) = Unit {0}
IsPlayable (tick thread) = Unit {0}
IsPlayable (close at) = Unit {0}
IsPlayable (cut_plan at hop) = Unit {0}
IsPlayable (cached at what) = IsAsked what
IsPlayable (rounds_plan count) = Unit {0}
IsPlayable (times count plan) = IsSingle plan × IsPlayable plan

-- the steps in order
abbrev pub run : List Plan → WorldValue → WorldValue
run [] w = w
run (plan ∷ plans) w = run plans (played plan w)

-- ---- what can be asked of a chain

abbrev pub log_of : Option ChainValue → List LogLine
log_of None = []
log_of (Some chain) = chain.client.log

abbrev pub log_at : ℕ → WorldValue → List LogLine
log_at at w = log_of (slice_get w.chains at)

abbrev pub is_quiet_at : Option ChainValue → AgentValue → Bool
is_quiet_at None a = true
is_quiet_at (Some chain) a = is_quiet chain a

abbrev pub quiet_at : ℕ → WorldValue → Bool
quiet_at at w = is_quiet_at (slice_get w.chains at) w.agent
