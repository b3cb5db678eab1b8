-- In a round a value-add takes all that waits at a side, or takes nothing from there any more.
use Rattle.std.proofs.Common.{◌≡◌, ℕ, zero, suc, ◌+◌, ◌-◌, ◌<◌, ◌==◌, nat_lt, Bool, true, false, cond, List, [], ◌∷◌, ◌++◌, take, Option, Some, None, IfSome, refl, sym, ap, ◌∙◌, subst, add-one}
use Rattle.std.specs.Prelude.{slice_get, slice_set}
use Rattle.agent_node.specs.Agent.{opened as agent_opened}
use Rattle.agent_node.specs.AgentValue.{AgentValue}
use Rattle.agent_node.specs.Channels.{end_in}
use Rattle.agent_node.specs.Agent.{channel_of}
use Rattle.target_hub.specs.declared.input.Input.{Input}
use Rattle.chain_route.specs.Hop as hop
use Rattle.chain_route.specs.Passing.{carried as pair_carried, emptied}
use Rattle.chain_route.specs.Route.{add_put, beside, connected, connected_after, hop_put, joined, last_of, made_at, on_add, on_hop, pair_put, peer_of, reached as way_reached, turn_put, turned as way_turned, upper_below, waiting_of, with_carried, with_upper}
use Rattle.chain_route.specs.RouteValue.{RouteValue}
use Rattle.chain_route.specs.declared.hop.Hop.{Hop}
use Rattle.value_node.specs.Value.{connected as value_connected, new_value, turned as value_turned, waiting_at}
use Rattle.value_node.specs.ValueValue.{ValueValue}
use Rattle.value_node.specs.declared.states.Side.{Side}
use Rattle.value_node.specs.declared.states.Side.TheVariants.{Below, Above}
use Rattle.value_node.specs.declared.states.ValueTurn.{ValueTurn}
use Rattle.value_node.specs.declared.states.ValueTurn.TheVariants.{Nothing, Took, Connect}
use Rattle.chain_world.specs.Chain.{all_dropped, carried_down, carried_from, none_reached, numbered, queue_of, reached}
use Rattle.chain_world.specs.ChainValue.{ChainValue}
use Rattle.chain_world.specs.Until.{TakesNoMore, add_at, add_in, most_counted}
use Rattle.chain_world.specs.World.{add_taken, add_turned, after_number, all_carried, carried, on_chain, on_some, opening, reached_at, reached_by, reached_from, reached_if, reached_with, repeated, turn_of_add, waiting_at_add, with_both, with_chain, with_input, with_route}
use Rattle.chain_world.specs.WorldValue.{WorldValue}
use Rattle.chain_world.proofs.AddTurns.{HasAtMost, all_has, connected_has, emptied_has, none_has, turn_has}
use Rattle.list_laws.proofs.Lists.{get_set}

-- ---- What holds of an element at a place

record At {A : Type 0} (P : A → Type 0) (i : ℕ) (xs : List A) : Type 0 where
  x : A
  there : slice_get xs i ≡ Some x
  is : P x

one_some : {A : Type 0} {x y : A} → Some x ≡ Some y → x ≡ y
one_some is = cc

set_at : {A : Type 0} → (P : A → Type 0) (i j : ℕ) (xs : List A) (x y : A) → slice_get xs j ≡ Some x → (P x → P y) → At P i xs → At P i (slice_set xs j y)
set_at P i j [] x y there keeps a = absurd cc
set_at P zero zero (z ∷ xs) x y there keeps a =
    let here : P z = subst P (sym (one_some a.there)) a.is in
    record { x = y; there = refl; is = keeps (subst P (one_some there) here) }
set_at P zero (suc j) (z ∷ xs) x y there keeps a = record { x = a.x; there = a.there; is = a.is }
set_at P (suc i) zero (z ∷ xs) x y there keeps a = record { x = a.x; there = a.there; is = a.is }
set_at P (suc i) (suc j) (z ∷ xs) x y there keeps a =
    let rest = set_at P i j xs x y there keeps (record { x = a.x; there = a.there; is = a.is }) in record { x = rest.x; there = rest.there; is = rest.is }

take_at : {A : Type 0} → (P : A → Type 0) (i : ℕ) (xs ys : List A) → At P i xs → At P i (take (suc i) xs ++ ys)
take_at P i [] ys a = let none : None ≡ Some a.x = a.there in absurd cc
take_at P zero (z ∷ xs) ys a = record { x = a.x; there = a.there; is = a.is }
take_at P (suc i) (z ∷ xs) ys a =
    let rest = take_at P i xs ys (record { x = a.x; there = a.there; is = a.is }) in record { x = rest.x; there = rest.there; is = rest.is }

-- ---- A way: it holds of a value-add still, whatever the others do

module _ (n : ℕ) (side : Side) (i : ℕ) where
  abbrev P : ValueValue → Type 0
  P v = HasAtMost n side v

  abbrev On : RouteValue → Type 0
  On r = At P i r.adds

  hop_on : (change : Hop → Hop) (j : ℕ) (r : RouteValue) → On r → On (on_hop change j r)
  hop_on change j r a = by_hop (slice_get r.hops j)
    where
      by_hop : (there : Option Hop) → On (hop_put change j there r)
      by_hop None = a
      by_hop (Some h) = record { x = a.x; there = a.there; is = a.is }

  add_on : (change : ValueValue → ValueValue) (j : ℕ) (r : RouteValue) → ((v : ValueValue) → P v → P (change v)) → On r → On (on_add change j r)
  add_on change j r keeps a = by_add (slice_get r.adds j) refl
    where
      by_add : (there : Option ValueValue) → slice_get r.adds j ≡ there → On (add_put change j there r)
      by_add None is = a
      by_add (Some v) is = set_at P i j r.adds v (change v) is (keeps v) a

  carried_on : (gone : Side) (j : ℕ) (r : RouteValue) → On r → On (with_carried gone j r)
  carried_on gone j r a = by_parts (slice_get r.adds j) (slice_get r.hops (beside gone j)) refl
    where
      by_parts : (add : Option ValueValue) (there : Option Hop) → slice_get r.adds j ≡ add → On (pair_put (pair_carried gone) gone j add there r)
      by_parts None None is = a
      by_parts None (Some h) is = a
      by_parts (Some v) None is = a
      by_parts (Some v) (Some h) is = set_at P i j r.adds v (emptied gone v) is (emptied_has n side gone v) a

  upper_on : (j : ℕ) (r : RouteValue) → On r → On (with_upper j r)
  upper_on j r a = carried_on Above j (on_add value_connected j r) (add_on value_connected j r (λ v has. connected_has n side v has) a)

  -- a hop begins anew, as this one
  begun_on : (begun : Hop) (j : ℕ) (r : RouteValue) → On r → On (upper_below j (on_hop (λ h. begun) j r))
  begun_on begun j r a = by_flag (j == 0)
    where
      next : RouteValue
      next = on_hop (λ h. begun) j r

      there : On next
      there = hop_on (λ h. begun) j r a

      by_flag : (flag : Bool) → On (cond flag next (with_upper (j - 1) next))
      by_flag true = there
      by_flag false = upper_on (j - 1) next there

  reached_on : (did : Bool) (r : RouteValue) → On r → On (way_reached did r)
  reached_on true r a = begun_on (hop.connected []) (last_of r) r a
  reached_on false r a = begun_on hop.refused (last_of r) r a

  connected_on : (r : RouteValue) → On r → On (connected (i + 1) r).1
  connected_on r a = by_flag (nat_lt (i + 1) (last_of r))
    where
      made : RouteValue
      made = made_at (i + 1) r

      made_on : On made
      made_on = subst (λ k. At P i (take k r.adds ++ new_value (peer_of (i + 1) r) ∷ [])) (sym (add-one i)) (take_at P i r.adds (new_value (peer_of (i + 1) r) ∷ []) a)

      by_flag : (flag : Bool) → On (cond {A = Bool × RouteValue} flag (false, with_carried Below (i + 1) (joined (i + 1) made)) (true, r)).1
      by_flag true = carried_on Below (i + 1) (joined (i + 1) made) (begun_on (hop.connected []) (i + 1) made made_on)
      by_flag false = a

  after_on : (turn : ValueTurn) (r : RouteValue) → On r → On (connected_after turn i r).1
  after_on Nothing r a = a
  after_on Took r a = a
  after_on Connect r a = connected_on r a

  -- ---- A chain, and a world

  abbrev OnChain : ChainValue → Type 0
  OnChain chain = On chain.route

  abbrev InWorld : ℕ → WorldValue → Type 0
  InWorld at w = At OnChain at w.chains

  down_on : (chain : ChainValue) (a : AgentValue) → OnChain chain → OnChain (carried_down chain a).chain
  down_on chain a on = by_channel chain.channel (all_dropped chain.earlier a)
    where
      by_channel : (channel : Option ℕ) (d : AgentValue) → OnChain (carried_from channel chain d).chain
      by_channel None d = on
      by_channel (Some k) d = hop_on (hop.sent_down (queue_of (end_in (channel_of k d)))) (last_of chain.route) chain.route on

  all_on : (at : ℕ) (chains : List ChainValue) (a : AgentValue) → At OnChain at chains → At OnChain at (all_carried chains a).chains
  all_on at [] a on = let none : None ≡ Some on.x = on.there in absurd cc
  all_on zero (c ∷ chains) a on = record { x = (carried_down c a).chain; there = refl; is = down_on c a (subst OnChain (sym (one_some on.there)) on.is) }
  all_on (suc at) (c ∷ chains) a on =
      let rest = all_on at chains (carried_down c a).agent (record { x = on.x; there = on.there; is = on.is }) in record { x = rest.x; there = rest.there; is = rest.is }

  carried_in : (at : ℕ) (w : WorldValue) → InWorld at w → InWorld at (carried w)
  unfolding carried
  carried_in at w on = let next = all_on at w.chains w.agent on in record { x = next.x; there = next.there; is = next.is }

  told_in : (at : ℕ) (input : Option Input) (w : WorldValue) → InWorld at w → InWorld at (carried (with_input input w))
  told_in at None w on = carried_in at w on
  told_in at (Some input) w on = carried_in at (with_input (Some input) w) (record { x = on.x; there = on.there; is = on.is })

  -- the way has reached the agent
  none_in : (at : ℕ) (w : WorldValue) → InWorld at w → InWorld at (on_chain none_reached at w)
  none_in at w on =
      let next = none_reached on.x in
      let without = (numbered None on.x).route in
      subst (λ o. InWorld at (on_some none_reached at o w)) (sym on.there)
      (record { x = next; there = get_set at w.chains next on.x on.there; is = hop_on (hop.sent_up (queue_of on.x.client.channel)) 0 (way_reached false without) (reached_on false without on.is) })

  some_in : (at k : ℕ) (w : WorldValue) → InWorld at w → InWorld at (reached_with k at w)
  unfolding reached
  some_in at k w on =
      let chain = on.x in
      let did = (agent_opened k w.agent).0 in
      let b = reached k chain w.agent in
      let next : WorldValue = record (with_both at b w) { next = after_number k } in
      let here : OnChain b.chain = hop_on (hop.sent_up (queue_of chain.client.channel)) 0 (way_reached did chain.route) (reached_on did chain.route on.is) in
      subst (λ o. InWorld at (reached_from k at o w)) (sym on.there)
      (told_in at (opening did k) next (record { x = b.chain; there = get_set at w.chains b.chain chain on.there; is = here }))

  reached_in : (at : ℕ) (w : WorldValue) → InWorld at w → InWorld at (reached_at at w)
  reached_in at w on = by_next w.next
    where
      by_next : (next : Option ℕ) → InWorld at (reached_by next at w)
      by_next None = none_in at w on
      by_next (Some k) = some_in at k w on

  if_in : (at : ℕ) (x : Bool × ChainValue) (chain : ChainValue) (w : WorldValue) → slice_get w.chains at ≡ Some chain → OnChain x.1 → InWorld at (reached_if at x w)
  if_in at (false, next) chain w there on = record { x = next; there = get_set at w.chains next chain there; is = on }
  if_in at (true, next) chain w there on = reached_in at (with_chain at next w) (record { x = next; there = get_set at w.chains next chain there; is = on })

-- ---- A turn of it

route_turn : (n : ℕ) (side : Side) (i : ℕ) (r : RouteValue) → On (suc n) side i r → On n side i (way_turned side i r).1
route_turn n side i r a =
    let next = value_turned side a.x in
    let set : RouteValue = record r { adds = slice_set r.adds i next.1 } in
    let here : On n side i set = record { x = next.1; there = get_set i r.adds next.1 a.x a.there; is = turn_has n side a.x a.is } in
    let both : On n side i (with_carried Above i (with_carried Below i set)) = carried_on n side i Above i (with_carried Below i set) (carried_on n side i Below i set here) in
    subst (λ o. On n side i (turn_put side i o r).1) (sym a.there) (after_on n side i next.0 (with_carried Above i (with_carried Below i set)) both)

world_turn : (n : ℕ) (side : Side) (at i : ℕ) (w : WorldValue) → InWorld (suc n) side i at w → InWorld n side i at (turn_of_add at i side w)
world_turn n side at i w on =
    subst (λ o. InWorld n side i at (add_turned at i side o w)) (sym on.there)
    (if_in n side i at (with_route (way_turned side i on.x.route) on.x) on.x w on.there (route_turn n side i on.x.route on.is))

world_turns : (n : ℕ) (side : Side) (at i : ℕ) (w : WorldValue) → InWorld n side i at w → InWorld 0 side i at (repeated n (turn_of_add at i side) w)
world_turns zero side at i w on = on
world_turns (suc n) side at i w on = world_turns n side at i (turn_of_add at i side w) (world_turn n side at i w on)

-- ---- All that waits

ends_in : (side : Side) (at i : ℕ) (w : WorldValue) → InWorld 0 side i at w → IfSome (add_at at i w) (TakesNoMore side)
ends_in side at i w on =
    subst (λ o. IfSome (add_in i o) (TakesNoMore side)) (sym on.there)
    (subst (λ o. IfSome o (TakesNoMore side)) (sym on.is.there) (none_has side on.is.x on.is.is))

pub add_took_all : (at i : ℕ) (side : Side) (w : WorldValue) → IfSome (add_at at i w) (λ v. waiting_at side v.relay < most_counted) → IfSome (add_at at i (add_taken at i side w)) (TakesNoMore side)
add_took_all at i side w few = by_chain (slice_get w.chains at) refl
  where
    Turned : ℕ → Type 0
    Turned n = IfSome (add_at at i (repeated n (turn_of_add at i side) w)) (TakesNoMore side)

    none : add_at at i w ≡ None → Turned 0
    none is = subst (λ o. IfSome o (TakesNoMore side)) (sym is) tt

    by_add : (chain : ChainValue) (there : Option ValueValue) → slice_get w.chains at ≡ Some chain → slice_get chain.route.adds i ≡ there → Turned (waiting_of side there)
    by_add chain None is gone = none (ap (add_in i) is ∙ gone)
    by_add chain (Some v) is there =
        let n = waiting_at side v.relay in
        let less : n < most_counted = subst (λ o. IfSome o (λ x. waiting_at side x.relay < most_counted)) (ap (add_in i) is ∙ there) few in
        let on : InWorld n side i at w = record { x = chain; there = is; is = record { x = v; there = there; is = all_has side v less } } in
        ends_in side at i (repeated n (turn_of_add at i side) w) (world_turns n side at i w on)

    by_chain : (there : Option ChainValue) → slice_get w.chains at ≡ there → Turned (waiting_at_add side i there)
    by_chain None is = none (ap (add_in i) is)
    by_chain (Some chain) is = by_add chain (slice_get chain.route.adds i) is refl
