-- A single step is no repetition; and whatever is played, there are as many chains as before.
use Rattle.std.proofs.Common.{◌≡◌, ℕ, zero, suc, ◌+◌, ◌-◌, ◌==◌, Bool, true, false, cond, List, [], ◌∷◌, length, Option, Some, None, refl, ap, ◌∙◌}
use Rattle.std.specs.Prelude.{nat_lt, slice_get}
use Rattle.agent_node.specs.AgentValue.{AgentValue}
use Rattle.agent_node.specs.Agent as agent
use Rattle.chain_route.specs.Route.{turned as route_turned}
use Rattle.target_hub.specs.declared.input.Input.{Input}
use Rattle.tcf_schedules.specs.Plan.{Plan, cached, close, cut as cut_plan, deliver, opens, rounds as rounds_plan, send, tick, times, turn}
use Rattle.tcf_values.specs.declared.ids.ContextId.{ContextId}
use Rattle.value_node.specs.declared.states.Side.{Side}
use Rattle.value_node.specs.declared.states.Side.TheVariants.{Below, Above}
use Rattle.chain_world.specs.Chain.{Both, all_down, all_taken_down, all_up, asked, carried_down, closed, cut, delivered_over, delivered_under, is_opened, none_reached, opened, reached, sent, turned_down, turned_on, turning}
use Rattle.chain_world.specs.ChainValue.{ChainValue}
use Rattle.chain_world.specs.World.{IsNotRepeated, IsSingle, add_rounded, add_turned, adds_in, adds_rounded, after_number, agent_taken, agent_turned, all_carried, all_round_down, all_to_add, carried, connected_at, delivered_at, on_chain, on_some, opened_from, opening, played, reached_by, reached_from, reached_if, repeated, round_all, round_at, round_from, round_of, rounded_down, rounded_up, rounds, tick_of, ticked_in, turn_of_add, turn_of_agent, turned_at, turned_down_at, turned_up_at, waiting_at_add, waiting_in_chain, with_agent, with_both, with_chain, with_input, with_route, with_some}
use Rattle.chain_world.specs.WorldValue.{WorldValue}
use Rattle.list_laws.proofs.Lists.{set_length}

pub single_isnt_repeated : (plan : Plan) → IsSingle plan → IsNotRepeated plan
single_isnt_repeated (opens chain) is = tt
single_isnt_repeated (send chain service name body) is = tt
single_isnt_repeated (deliver chain hop up count) is = tt
single_isnt_repeated (turn chain node up) is = tt
single_isnt_repeated (tick thread) is = tt
single_isnt_repeated (close chain) is = tt
single_isnt_repeated (cut_plan chain hop) is = tt
single_isnt_repeated (cached chain what) is = tt
single_isnt_repeated (rounds_plan count) is = absurd is
single_isnt_repeated (times count plan) is = absurd is

-- ---- As many chains

abbrev pub IsKept : WorldValue → WorldValue → Type 0
IsKept w next = length next.chains ≡ length w.chains

all_kept : (chains : List ChainValue) (a : AgentValue) → length (all_carried chains a).chains ≡ length chains
all_kept [] a = refl
all_kept (chain ∷ chains) a = ap suc (all_kept chains (carried_down chain a).agent)

carried_kept : (w : WorldValue) → IsKept w (carried w)
unfolding carried
carried_kept w = all_kept w.chains w.agent

input_kept : (input : Option Input) (w : WorldValue) → IsKept w (with_input input w)
input_kept None w = refl
input_kept (Some input) w = refl

told_kept : (input : Option Input) (w : WorldValue) → IsKept w (carried (with_input input w))
told_kept input w = carried_kept (with_input input w) ∙ input_kept input w

chain_kept : (at : ℕ) (chain : ChainValue) (w : WorldValue) → IsKept w (with_chain at chain w)
chain_kept at chain w = set_length at w.chains chain

some_kept : (change : ChainValue → ChainValue) (at : ℕ) (there : Option ChainValue) (w : WorldValue) → IsKept w (on_some change at there w)
some_kept change at None w = refl
some_kept change at (Some chain) w = chain_kept at (change chain) w

on_kept : (change : ChainValue → ChainValue) (at : ℕ) (w : WorldValue) → IsKept w (on_chain change at w)
on_kept change at w = some_kept change at (slice_get w.chains at) w

both_kept : (change : ChainValue → AgentValue → Both) (at : ℕ) (there : Option ChainValue) (w : WorldValue) → IsKept w (with_some change at there w)
both_kept change at None w = refl
both_kept change at (Some chain) w = set_length at w.chains (change chain w.agent).chain

agent_kept : (change : ChainValue → AgentValue → Both) (at : ℕ) (w : WorldValue) → IsKept w (with_agent change at w)
agent_kept change at w = both_kept change at (slice_get w.chains at) w

-- ---- Connections

from_kept : (k at : ℕ) (there : Option ChainValue) (w : WorldValue) → IsKept w (reached_from k at there w)
from_kept k at None w = refl
from_kept k at (Some chain) w =
    let next : WorldValue = record (with_both at (reached k chain w.agent) w) { next = after_number k } in
    told_kept (opening (agent.opened k w.agent).0 k) next ∙ set_length at w.chains (reached k chain w.agent).chain

by_kept : (next : Option ℕ) (at : ℕ) (w : WorldValue) → IsKept w (reached_by next at w)
by_kept None at w = on_kept none_reached at w
by_kept (Some k) at w = from_kept k at (slice_get w.chains at) w

if_kept : (at : ℕ) (next : Bool × ChainValue) (w : WorldValue) → IsKept w (reached_if at next w)
if_kept at (false, chain) w = chain_kept at chain w
if_kept at (true, chain) w = by_kept w.next at (with_chain at chain w) ∙ chain_kept at chain w

flag_kept : (flag : Bool) (w one other : WorldValue) → IsKept w one → IsKept w other → IsKept w (cond flag one other)
flag_kept true w one other first second = first
flag_kept false w one other first second = second

opened_kept : (at : ℕ) (there : Option ChainValue) (w : WorldValue) → IsKept w (opened_from at there w)
opened_kept at None w = refl
opened_kept at (Some chain) w = flag_kept (is_opened chain) w w (connected_at at chain w) refl (if_kept at (opened chain) w)

-- ---- Turns

add_kept : (at add : ℕ) (side : Side) (there : Option ChainValue) (w : WorldValue) → IsKept w (add_turned at add side there w)
add_kept at add side None w = refl
add_kept at add side (Some chain) w = if_kept at (with_route (route_turned side add chain.route) chain) w

turn_kept : (at : ℕ) (there : Option ChainValue) (w : WorldValue) → IsKept w (agent_turned at there w)
turn_kept at None w = refl
turn_kept at (Some chain) w =
    let next = turned_on (turning chain.earlier chain.channel w.agent) w.agent in told_kept next.0 (record w { agent = next.1 })

up_kept : (at node : ℕ) (w : WorldValue) → IsKept w (turned_up_at at node w)
up_kept at node w =
    let there = slice_get w.chains at in
    let add = add_turned at (node - 1) Below there w in
    let last = agent_turned at there w in
    flag_kept (node == 0) w w (cond (nat_lt (node - 1) (adds_in there)) add last) refl
    (flag_kept (nat_lt (node - 1) (adds_in there)) w add last (add_kept at (node - 1) Below there w) (turn_kept at there w))

down_kept : (at node : ℕ) (w : WorldValue) → IsKept w (turned_down_at at node w)
down_kept at node w =
    let there = slice_get w.chains at in
    flag_kept (node == 0) w (on_chain turned_down at w) (add_turned at (node - 1) Above there w) (on_kept turned_down at w) (add_kept at (node - 1) Above there w)

turned_kept : (at node : ℕ) (up : Bool) (w : WorldValue) → IsKept w (turned_at at node up w)
turned_kept at node true w = up_kept at node w
turned_kept at node false w = down_kept at node w

ticked_kept : (thread : ContextId) (w : WorldValue) → IsKept w (ticked_in thread w)
ticked_kept thread w = let next = agent.ticked thread w.agent in told_kept (tick_of next.0 thread) (record w { agent = next.1 })

delivered_kept : (at hop : ℕ) (up : Bool) (count : ℕ) (w : WorldValue) → IsKept w (delivered_at at hop up count w)
delivered_kept at hop true count w = agent_kept (delivered_over hop count) at w
delivered_kept at hop false count w = on_kept (delivered_under hop count) at w

-- ---- Rounds

repeated_kept : (n : ℕ) (step : WorldValue → WorldValue) (w : WorldValue) → ((v : WorldValue) → IsKept v (step v)) → IsKept w (repeated n step w)
repeated_kept zero step w each = refl
repeated_kept (suc n) step w each = repeated_kept n step (step w) each ∙ each w

rounded_kept : (at add : ℕ) (side : Side) (w : WorldValue) → IsKept w (add_rounded at add side w)
rounded_kept at add side w =
    let next : WorldValue = on_chain (all_to_add side add) at w in
    repeated_kept (waiting_at_add side add (slice_get next.chains at)) (turn_of_add at add side) next (λ v. add_kept at add side (slice_get v.chains at) v)
    ∙ on_kept (all_to_add side add) at w

adds_kept : (n add at : ℕ) (w : WorldValue) → IsKept w (adds_rounded n add at w)
adds_kept zero add at w = refl
adds_kept (suc n) add at w = adds_kept n (add + 1) at (add_rounded at add Below w) ∙ rounded_kept at add Below w

downs_kept : (n at : ℕ) (w : WorldValue) → IsKept w (rounded_down n at w)
downs_kept zero at w = refl
downs_kept (suc n) at w = downs_kept n at (add_rounded at n Above w) ∙ rounded_kept at n Above w

round_of_kept : (at : ℕ) (w : WorldValue) → IsKept w (round_of at w)
round_of_kept at w =
    let adds : WorldValue = adds_rounded (adds_in (slice_get w.chains at)) 0 at w in
    let up : WorldValue = rounded_up at w in
    let taken : WorldValue = agent_taken at up in
    let down : WorldValue = all_round_down at taken in
    on_kept (λ chain. all_taken_down (all_down chain)) at down
    ∙ downs_kept (adds_in (slice_get taken.chains at)) at taken
    ∙ repeated_kept (waiting_in_chain (slice_get up.chains at) up) (turn_of_agent at) up (λ v. turn_kept at (slice_get v.chains at) v)
    ∙ agent_kept all_up at adds
    ∙ adds_kept (adds_in (slice_get w.chains at)) 0 at w

round_from_kept : (at : ℕ) (there : Option ChainValue) (w : WorldValue) → IsKept w (round_from at there w)
round_from_kept at None w = refl
round_from_kept at (Some chain) w = flag_kept (is_opened chain) w (round_of at w) w (round_of_kept at w) refl

round_all_kept : (n at : ℕ) (w : WorldValue) → IsKept w (round_all n at w)
round_all_kept zero at w = refl
round_all_kept (suc n) at w = round_all_kept n (at + 1) (round_at at w) ∙ round_from_kept at (slice_get w.chains at) w

rounds_kept : (n : ℕ) (w : WorldValue) → IsKept w (rounds n w)
rounds_kept zero w = refl
rounds_kept (suc n) w = rounds_kept n (round_all (length w.chains) 0 w) ∙ round_all_kept (length w.chains) 0 w

-- ---- Whatever is played

pub played_kept : (plan : Plan) (w : WorldValue) → length (played plan w).chains ≡ length w.chains
played_kept (opens at) w = opened_kept at (slice_get w.chains at) w
played_kept (send at service name body) w = on_kept (sent service name body) at w
played_kept (deliver at hop up count) w = delivered_kept at hop up count w
played_kept (turn at node up) w = turned_kept at node up w
played_kept (tick thread) w = ticked_kept thread w
played_kept (close at) w = on_kept closed at w
played_kept (cut_plan at hop) w = agent_kept (cut hop) at w
played_kept (cached at what) w = on_kept (asked what) at w
played_kept (rounds_plan count) w = rounds_kept count w
played_kept (times count plan) w = repeated_kept count (played plan) w (played_kept plan)
