-- What changes on a way leaves its value-adds their places, and each of them ready.
use Rattle.std.proofs.Common.{◌≡◌, ℕ, zero, suc, ◌+◌, ◌-◌, ◌<◌, ◌≤◌, ◌==◌, Bool, true, false, cond, nat_lt, List, [], ◌∷◌, ◌++◌, length, take, Option, Some, None, refl, ap, ◌∙◌, subst, arith, length-append, ltb-true}
use Rattle.std.specs.Prelude.{slice_get, slice_set}
use Rattle.std.specs.List.{AllByRecursion}
use Rattle.channel_core.specs.declared.held.Outgoing.{Outgoing}
use Rattle.value_node.specs.Runs.{called, connects}
use Rattle.value_node.specs.Value.{ended, new_value, turned as value_turned}
use Rattle.value_node.specs.ValueValue.{ValueValue}
use Rattle.value_node.specs.declared.states.Side.{Side}
use Rattle.value_node.specs.declared.states.Side.TheVariants.{Below, Above}
use Rattle.value_node.specs.declared.states.ValueTurn.{ValueTurn}
use Rattle.value_node.specs.declared.states.ValueTurn.TheVariants.{Nothing, Took, Connect}
use Rattle.chain_route.specs.Hop as hop
use Rattle.chain_route.specs.Lane.{arriving}
use Rattle.chain_route.specs.Passing.{Pair, carried, came, delivered, pair, takes}
use Rattle.chain_route.specs.Route.{add_put, beside, connected, connected_after, cut, ended_below, hop_put, is_live, joined, last_of, live_of, made_at, on_add, on_hop, on_pair, pair_put, peer_of, reached, turn_put, turned, upper_below, with_carried, with_upper}
use Rattle.chain_route.specs.RouteValue.{RouteValue}
use Rattle.chain_route.specs.declared.hop.Hop.{Hop}
use Rattle.chain_world.proofs.Lists.{all_at, all_set}
use Rattle.chain_world.proofs.Waiting.{IsReadyAdd, connected_ready, emptied_ready, ended_ready, parts_ready, turns_so}
use Rattle.list_laws.proofs.AllLists.{all_append, all_take as all_taken}
use Rattle.list_laws.proofs.Lists.{set_length, take_most}

abbrev pub AreReady : List ValueValue → Type 0
AreReady adds = AllByRecursion IsReadyAdd adds

-- ---- What makes no value-add, and what connects no first hop either

pub record IsSteady (r next : RouteValue) : Type 0 where
  pub ready : AreReady r.adds → AreReady next.adds
  pub made : length next.adds ≡ length r.adds
  pub last : last_of next ≡ last_of r

pub record IsQuiet (r next : RouteValue) : Type 0 where
  pub steady : IsSteady r next
  pub live : is_live 0 r ≡ false → is_live 0 next ≡ false

steady_none : (r : RouteValue) → IsSteady r r
steady_none r = record { ready = λ all. all; made = refl; last = refl }

quiet_none : (r : RouteValue) → IsQuiet r r
quiet_none r = record { steady = steady_none r; live = λ dead. dead }

steady_then : (r next last : RouteValue) → IsSteady r next → IsSteady next last → IsSteady r last
steady_then r next last one two = record { ready = λ all. two.ready (one.ready all); made = two.made ∙ one.made; last = two.last ∙ one.last }

quiet_then : (r next last : RouteValue) → IsQuiet r next → IsQuiet next last → IsQuiet r last
quiet_then r next last one two = record { steady = steady_then r next last one.steady two.steady; live = λ dead. two.live (one.live dead) }

-- ---- A hop, a value-add or both change

live_set : (at : ℕ) (hops : List Hop) (h x : Hop) → slice_get hops at ≡ Some h → (h.is_live ≡ false → x.is_live ≡ false) → live_of (slice_get hops 0) ≡ false → live_of (slice_get (slice_set hops at x) 0) ≡ false
live_set at [] h x is lowers dead = absurd cc
live_set zero (g ∷ hops) h x is lowers dead = let same : g ≡ h = cc in lowers (subst (λ y. y.is_live ≡ false) same dead)
live_set (suc at) (g ∷ hops) h x is lowers dead = dead

put_steady : (f : Hop → Hop) (at : ℕ) (there : Option Hop) (r : RouteValue) → IsSteady r (hop_put f at there r)
put_steady f at None r = steady_none r
put_steady f at (Some h) r = record { ready = λ all. all; made = refl; last = ap (λ n. n - 1) (set_length at r.hops (f h)) }

hop_steady : (f : Hop → Hop) (at : ℕ) (r : RouteValue) → IsSteady r (on_hop f at r)
hop_steady f at r = put_steady f at (slice_get r.hops at) r

abbrev pub KeepsDead : (Hop → Hop) → Type 0
KeepsDead f = (h : Hop) → h.is_live ≡ false → (f h).is_live ≡ false

put_live : (f : Hop → Hop) (at : ℕ) (there : Option Hop) (r : RouteValue) → slice_get r.hops at ≡ there → KeepsDead f → is_live 0 r ≡ false → is_live 0 (hop_put f at there r) ≡ false
put_live f at None r is keeps dead = dead
put_live f at (Some h) r is keeps dead = live_set at r.hops h (f h) is (keeps h) dead

pub hop_quiet : (f : Hop → Hop) (at : ℕ) (r : RouteValue) → KeepsDead f → IsQuiet r (on_hop f at r)
hop_quiet f at r keeps = record { steady = hop_steady f at r; live = put_live f at (slice_get r.hops at) r refl keeps }

abbrev KeepsReady : (ValueValue → ValueValue) → Type 0
KeepsReady f = (v : ValueValue) → IsReadyAdd v → IsReadyAdd (f v)

add_put_quiet : (f : ValueValue → ValueValue) (at : ℕ) (there : Option ValueValue) (r : RouteValue) → slice_get r.adds at ≡ there → KeepsReady f → IsQuiet r (add_put f at there r)
add_put_quiet f at None r is keeps = quiet_none r
add_put_quiet f at (Some v) r is keeps = record {
  steady = record { ready = λ all. all_set IsReadyAdd at r.adds (f v) (keeps v (all_at IsReadyAdd at r.adds v is all)) all; made = set_length at r.adds (f v); last = refl };
  live = λ dead. dead;
}

add_quiet : (f : ValueValue → ValueValue) (at : ℕ) (r : RouteValue) → KeepsReady f → IsQuiet r (on_add f at r)
add_quiet f at r keeps = add_put_quiet f at (slice_get r.adds at) r refl keeps

pub record KeepsPair (f : Pair → Pair) : Type 0 where
  pub ready : (p : Pair) → IsReadyAdd p.add → IsReadyAdd (f p).add
  pub dead : (p : Pair) → p.hop.is_live ≡ false → (f p).hop.is_live ≡ false

pair_put_quiet : (f : Pair → Pair) (side : Side) (at : ℕ) (add : Option ValueValue) (there : Option Hop) (r : RouteValue) → slice_get r.adds at ≡ add → slice_get r.hops (beside side at) ≡ there
    → KeepsPair f → IsQuiet r (pair_put f side at add there r)
pair_put_quiet f side at None None r is_add is_hop keeps = quiet_none r
pair_put_quiet f side at None (Some h) r is_add is_hop keeps = quiet_none r
pair_put_quiet f side at (Some v) None r is_add is_hop keeps = quiet_none r
pair_put_quiet f side at (Some v) (Some h) r is_add is_hop keeps =
    let p = f (pair v h) in
    record {
      steady = record {
        ready = λ all. all_set IsReadyAdd at r.adds p.add (keeps.ready (pair v h) (all_at IsReadyAdd at r.adds v is_add all)) all;
        made = set_length at r.adds p.add;
        last = ap (λ n. n - 1) (set_length (beside side at) r.hops p.hop);
      };
      live = live_set (beside side at) r.hops h p.hop is_hop (keeps.dead (pair v h));
    }

pub pair_quiet : (f : Pair → Pair) (side : Side) (at : ℕ) (r : RouteValue) → KeepsPair f → IsQuiet r (on_pair f side at r)
pair_quiet f side at r keeps = pair_put_quiet f side at (slice_get r.adds at) (slice_get r.hops (beside side at)) r refl refl keeps

-- ---- What goes out and what arrives

pub up_live : (outs : List Outgoing) (h : Hop) → (hop.sent_up outs h).is_live ≡ h.is_live
up_live outs h = by_flag (hop.goes_up h)
  where
    by_flag : (flag : Bool) → (cond flag (record h { up = h.up ++ outs }) h).is_live ≡ h.is_live
    by_flag true = refl
    by_flag false = refl

pub down_live : (outs : List Outgoing) (h : Hop) → (hop.sent_down outs h).is_live ≡ h.is_live
down_live outs h = by_flag h.is_live
  where
    by_flag : (flag : Bool) → (cond flag (record h { down = h.down ++ outs }) h).is_live ≡ h.is_live
    by_flag true = refl
    by_flag false = refl

from_live : (side : Side) (outs : List Outgoing) (h : Hop) → (hop.sent_from side outs h).is_live ≡ h.is_live
from_live Below outs h = down_live outs h
from_live Above outs h = up_live outs h

at_live : (side : Side) (count : ℕ) (h : Hop) → (hop.arrived_at side count h).is_live ≡ h.is_live
at_live Below count h = refl
at_live Above count h = refl

carried_keeps : (side : Side) → KeepsPair (carried side)
carried_keeps side = record { ready = λ p ready. emptied_ready side p.add ready; dead = λ p dead. from_live side _ p.hop ∙ dead }

pub delivered_keeps : (side : Side) (count : ℕ) → KeepsPair (delivered side count)
delivered_keeps side count = record {
  ready = λ p ready. ready_by p ready (takes side p.add p.hop);
  dead = λ p dead. dead_by p dead (takes side p.add p.hop);
}
  where
    ready_by : (p : Pair) → IsReadyAdd p.add → (flag : Bool) → IsReadyAdd (cond flag (carried side (came side count p)) p).add
    ready_by p ready true = emptied_ready side (came side count p).add (parts_ready side (arriving count (hop.lane_to side p.hop)) p.add ready)
    ready_by p ready false = ready

    dead_by : (p : Pair) → p.hop.is_live ≡ false → (flag : Bool) → (cond flag (carried side (came side count p)) p).hop.is_live ≡ false
    dead_by p dead true = from_live side _ (hop.arrived_at side count p.hop) ∙ at_live side count p.hop ∙ dead
    dead_by p dead false = dead

-- ---- Connections, and cuts

upper_steady : (at : ℕ) (r : RouteValue) → IsSteady r (with_upper at r)
upper_steady at r =
    let next = on_add (called connects) at r in
    steady_then r next (with_upper at r) (add_quiet (called connects) at r connected_ready).steady (pair_quiet (carried Above) Above at next (carried_keeps Above)).steady

below_steady : (at : ℕ) (r : RouteValue) → IsSteady r (upper_below at r)
below_steady at r = by_flag (at == 0)
  where
    by_flag : (flag : Bool) → IsSteady r (cond flag r (with_upper (at - 1) r))
    by_flag true = steady_none r
    by_flag false = upper_steady (at - 1) r

-- a hop begins anew, as this one
pub begun_steady : (begun : Hop) (at : ℕ) (r : RouteValue) → IsSteady r (upper_below at (on_hop (λ h. begun) at r))
begun_steady begun at r =
    let next = on_hop (λ h. begun) at r in steady_then r next (upper_below at next) (hop_steady (λ h. begun) at r) (below_steady at next)

pub joined_steady : (at : ℕ) (r : RouteValue) → IsSteady r (joined at r)
joined_steady at r = begun_steady (hop.connected []) at r

pub reached_steady : (did : Bool) (r : RouteValue) → IsSteady r (reached did r)
reached_steady true r = joined_steady (last_of r) r
reached_steady false r = begun_steady hop.refused (last_of r) r

gone_quiet : (at : ℕ) (r : RouteValue) → IsQuiet r (ended_below at r)
gone_quiet at r = by_flag (at == 0)
  where
    by_flag : (flag : Bool) → IsQuiet r (cond flag r (on_add (ended Above) (at - 1) r))
    by_flag true = quiet_none r
    by_flag false = add_quiet (ended Above) (at - 1) r (ended_ready Above)

pub cut_quiet : (at : ℕ) (r : RouteValue) → IsQuiet r (cut at r).1
cut_quiet at r = by_flag (is_live at r)
  where
    one : RouteValue
    one = on_hop hop.cut at r

    two : RouteValue
    two = on_add (ended Below) at one

    by_flag : (flag : Bool) → IsQuiet r (cond {A = Bool × RouteValue} flag (true, ended_below at two) (false, r)).1
    by_flag true =
        quiet_then r one (ended_below at two) (hop_quiet hop.cut at r (λ h dead. refl))
        (quiet_then one two (ended_below at two) (add_quiet (ended Below) at one (ended_ready Below)) (gone_quiet at two))
    by_flag false = quiet_none r

-- ---- The value-adds of a way

pub record HasPlaces (r : RouteValue) : Type 0 where
  pub ready : AreReady r.adds
  pub made : length r.adds ≤ last_of r

pub places_steady : (r next : RouteValue) → IsSteady r next → HasPlaces r → HasPlaces next
places_steady r next s p = record { ready = s.ready p.ready; made = omega (arith, s.made, s.last, p.made) }

places_made : (at : ℕ) (r : RouteValue) → nat_lt at (last_of r) ≡ true → HasPlaces r → HasPlaces (made_at at r)
places_made at r below p =
    let new = new_value (peer_of at r) in
    let few : length (take at r.adds) ≤ at = take_most at r.adds in
    let size : length (take at r.adds ++ new ∷ []) ≡ length (take at r.adds) + 1 = length-append (take at r.adds) (new ∷ []) in
    let less : at < last_of r = ltb-true at (last_of r) below in
    record { ready = all_append IsReadyAdd (take at r.adds) (new ∷ []) (all_taken IsReadyAdd at r.adds p.ready) (tt, tt); made = omega (arith, few, size, less) }

pub places_connected : (at : ℕ) (r : RouteValue) → HasPlaces r → HasPlaces (connected at r).1
places_connected at r p = by_flag (nat_lt at (last_of r)) refl
  where
    made : RouteValue
    made = made_at at r

    next : RouteValue
    next = joined at made

    by_flag : (flag : Bool) → nat_lt at (last_of r) ≡ flag → HasPlaces (cond {A = Bool × RouteValue} flag (false, with_carried Below at next) (true, r)).1
    by_flag true is =
        places_steady made (with_carried Below at next) (steady_then made next (with_carried Below at next) (joined_steady at made) (pair_quiet (carried Below) Below at next (carried_keeps Below)).steady)
        (places_made at r is p)
    by_flag false is = p

-- what was taken is carried on, before the value-add connects
abbrev pub after_turn : Side → ℕ → ValueValue → RouteValue → RouteValue
after_turn side at v r = with_carried Above at (with_carried Below at (record r { adds = slice_set r.adds at (value_turned side v).1 }))

pub turn_steady : (side : Side) (at : ℕ) (v : ValueValue) (r : RouteValue) → slice_get r.adds at ≡ Some v → IsSteady r (after_turn side at v r)
turn_steady side at v r is =
    let taken = value_turned side v in
    let one : RouteValue = record r { adds = slice_set r.adds at taken.1 } in
    let two = with_carried Below at one in
    let first : IsSteady r one = record {
      ready = λ all. all_set IsReadyAdd at r.adds taken.1 (turns_so side v.relay (all_at IsReadyAdd at r.adds v is all)).ready all;
      made = set_length at r.adds taken.1;
      last = refl;
    } in
    steady_then r one (after_turn side at v r) first
    (steady_then one two (after_turn side at v r) (pair_quiet (carried Below) Below at one (carried_keeps Below)).steady (pair_quiet (carried Above) Above at two (carried_keeps Above)).steady)

pub places_turned : (side : Side) (at : ℕ) (r : RouteValue) → HasPlaces r → HasPlaces (turned side at r).1
places_turned side at r p = by_add (slice_get r.adds at) refl
  where
    by_turn : (turn : ValueTurn) (next : RouteValue) → HasPlaces next → HasPlaces (connected_after turn at next).1
    by_turn Nothing next q = q
    by_turn Took next q = q
    by_turn Connect next q = places_connected (at + 1) next q

    by_add : (there : Option ValueValue) → slice_get r.adds at ≡ there → HasPlaces (turn_put side at there r).1
    by_add None is = p
    by_add (Some v) is = by_turn (value_turned side v).0 (after_turn side at v r) (places_steady r (after_turn side at v r) (turn_steady side at v r is) p)
