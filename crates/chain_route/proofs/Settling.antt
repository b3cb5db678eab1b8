-- After each call all that the value-adds queued was given, and none waits for a connection but the last one, for the agent.
use Rattle.std.proofs.Common.{◌≡◌, ℕ, zero, suc, ◌+◌, ◌-◌, ◌<◌, ◌≤◌, ◌==◌, nat_lt, Bool, true, false, cond, List, [], ◌∷◌, ◌++◌, length, take, Option, Some, None, refl, sym, ap, ◌∙◌, subst, arith, length-append, length-take-le, ltb-true, ltb-false, ne_eqb}
use Rattle.std.specs.Prelude.{slice_get, slice_set}
use Rattle.std.proofs.lemmas.Bool.{eqb-false, eqb-true}
use Rattle.value_node.specs.Value.{awaits, connected as value_connected, ended, new_value, turned as value_turned}
use Rattle.value_node.specs.ValueValue.{ValueValue}
use Rattle.value_node.specs.declared.states.Side.{Side}
use Rattle.value_node.specs.declared.states.Side.TheVariants.{Below, Above}
use Rattle.value_node.specs.declared.states.ValueTurn.{ValueTurn}
use Rattle.value_node.specs.declared.states.ValueTurn.TheVariants.{Nothing, Took, Connect}
use Rattle.chain_route.specs.Hop as hop
use Rattle.chain_route.specs.Hop.{connected as hop_connected}
use Rattle.chain_route.specs.Passing.{Pair, carried, delivered, emptied, pair}
use Rattle.chain_route.specs.Route.{add_put, beside, connected, connected_after, cut, delivered_at, ended_below, hop_put, is_live, joined, last_of, made_at, on_add, on_hop, on_pair, pair_put, peer_of, reached, refused, turn_put, turned, upper_below, with_carried, with_upper}
use Rattle.chain_route.specs.RouteValue.{RouteValue}
use Rattle.chain_route.specs.declared.hop.Hop.{Hop}
use Rattle.chain_route.proofs.Settled.{Settled, connected_settled, emptied_above, emptied_below, ended_settled, new_settled, same_place, weaker, with_low, with_up, without_low, without_up}
use Rattle.list_laws.proofs.Lists.{get_within, set_length}

-- ---- Lists, changed at a place

set_each : {A : Type 0} → (P : ℕ → A → Type 0) (k : ℕ) (xs : List A) (x : A) → P k x → ((i : ℕ) (y : A) → (i ≡ k → ⊥) → slice_get xs i ≡ Some y → P i y)
    → (i : ℕ) (y : A) → slice_get (slice_set xs k x) i ≡ Some y → P i y
set_each P k [] x here others i y is = absurd cc
set_each P zero (z ∷ xs) x here others zero y is = let same : x ≡ y = cc in subst (P 0) same here
set_each P zero (z ∷ xs) x here others (suc i) y is = others (suc i) y (λ no_place. absurd (omega (arith, no_place))) is
set_each P (suc k) (z ∷ xs) x here others zero y is = others zero y (λ no_place. absurd (omega (arith, no_place))) is
set_each P (suc k) (z ∷ xs) x here others (suc i) y is =
    set_each (λ j. P (suc j)) k xs x here (λ j w apart there. others (suc j) w (λ same. apart (omega (arith, same))) there) i y is

new_each : {A : Type 0} → (P : ℕ → A → Type 0) (k : ℕ) (xs : List A) (x : A) → k ≤ length xs → P k x → ((i : ℕ) (y : A) → slice_get xs i ≡ Some y → P i y)
    → (i : ℕ) (y : A) → slice_get (take k xs ++ x ∷ []) i ≡ Some y → P i y
new_each P zero xs x most here others zero y is = let same : x ≡ y = cc in subst (P 0) same here
new_each P zero xs x most here others (suc i) y is = absurd cc
new_each P (suc k) [] x most here others i y is = absurd (omega (arith, most))
new_each P (suc k) (z ∷ xs) x most here others zero y is = others zero y is
new_each P (suc k) (z ∷ xs) x most here others (suc i) y is = new_each (λ j. P (suc j)) k xs x (omega (arith, most)) here (λ j w there. others (suc j) w there) i y is

none_past : {A : Type 0} → (i : ℕ) (xs : List A) → slice_get xs i ≡ None → length xs ≤ i
none_past i [] is = omega arith
none_past zero (x ∷ xs) is = absurd cc
none_past (suc i) (x ∷ xs) is = let rest = none_past i xs is in omega (arith, rest)

-- ---- All value-adds of a way

pub record AllSettled (low up wait : Option ℕ) (r : RouteValue) : Type 0 where
  pub fits : length r.adds + 1 ≤ length r.hops
  pub each : (i : ℕ) (v : ValueValue) → slice_get r.adds i ≡ Some v → Settled (length r.hops) low up wait i v

weaker_all : (low up wait : Option ℕ) (r : RouteValue) → AllSettled None None None r → AllSettled low up wait r
weaker_all low up wait r all = record { fits = all.fits; each = λ i v there. weaker (length r.hops) low up wait i v (all.each i v there) }

pub hop_settled : (low up wait : Option ℕ) (change : Hop → Hop) (at : ℕ) (r : RouteValue) → AllSettled low up wait r → AllSettled low up wait (on_hop change at r)
hop_settled low up wait change at r all = by_hop (slice_get r.hops at)
  where
    by_hop : (hop : Option Hop) → AllSettled low up wait (hop_put change at hop r)
    by_hop None = all
    by_hop (Some h) =
        let size = set_length at r.hops (change h) in
        record { fits = omega (arith, size, all.fits); each = λ i v there. subst (λ n. Settled n low up wait i v) (sym size) (all.each i v there) }

module _ (low up wait low1 up1 wait1 : Option ℕ) (at : ℕ) (r : RouteValue) (all : AllSettled low up wait r) where
  -- what the others need for it to hold at the places that are left
  abbrev OthersSettle : Type 0
  OthersSettle = (i : ℕ) (v : ValueValue) → (i ≡ at → ⊥) → Settled (length r.hops) low up wait i v → Settled (length r.hops) low1 up1 wait1 i v

  none_there : OthersSettle → slice_get r.adds at ≡ None → AllSettled low1 up1 wait1 r
  none_there others none = record { fits = all.fits; each = λ i v there. others i v (λ same. apart i v there same) (all.each i v there) }
    where
      apart : (i : ℕ) (v : ValueValue) → slice_get r.adds i ≡ Some v → i ≡ at → ⊥
      apart i v there same = let both : None ≡ Some v = sym none ∙ ap (slice_get r.adds) (sym same) ∙ there in cc

  pub put_settled : (next : ValueValue) → Settled (length r.hops) low1 up1 wait1 at next → OthersSettle → AllSettled low1 up1 wait1 (record r { adds = slice_set r.adds at next })
  put_settled next here others =
      let size = set_length at r.adds next in
      record {
        fits = omega (arith, size, all.fits);
        each = set_each (Settled (length r.hops) low1 up1 wait1) at r.adds next here (λ i v apart there. others i v apart (all.each i v there));
      }

  pub add_settled : (change : ValueValue → ValueValue) → ((v : ValueValue) → Settled (length r.hops) low up wait at v → Settled (length r.hops) low1 up1 wait1 at (change v)) → OthersSettle
      → AllSettled low1 up1 wait1 (on_add change at r)
  add_settled change here others = by_add (slice_get r.adds at) refl
    where
      by_add : (add : Option ValueValue) → slice_get r.adds at ≡ add → AllSettled low1 up1 wait1 (add_put change at add r)
      by_add None is = none_there others is
      by_add (Some v) is = put_settled (change v) (here v (all.each at v is)) others

  pub pair_settled : (side : Side) (change : Pair → Pair)
      → ((v : ValueValue) (h : Hop) → slice_get r.adds at ≡ Some v → Settled (length r.hops) low up wait at v → Settled (length r.hops) low1 up1 wait1 at (change (pair v h)).add) → OthersSettle
      → AllSettled low1 up1 wait1 (on_pair change side at r)
  pair_settled side change here others = by_parts (slice_get r.adds at) (slice_get r.hops (beside side at)) refl refl
    where
      place_most : (s : Side) → beside s at ≤ at + 1
      place_most Below = omega arith
      place_most Above = omega arith

      by_parts : (add : Option ValueValue) (hop : Option Hop) → slice_get r.adds at ≡ add → slice_get r.hops (beside side at) ≡ hop → AllSettled low1 up1 wait1 (pair_put change side at add hop r)
      by_parts None None is hop_is = none_there others is
      by_parts None (Some h) is hop_is = none_there others is
      by_parts (Some v) None is hop_is =
          let least = get_within at r.adds v is in
          let most = none_past (beside side at) r.hops hop_is in
          let place = place_most side in
          absurd (omega (arith, least, most, place, all.fits))
      by_parts (Some v) (Some h) is hop_is =
          let p = change (pair v h) in
          let size = set_length (beside side at) r.hops p.hop in
          let set = put_settled p.add (here v h is (all.each at v is)) others in
          record { fits = omega (arith, size, set.fits); each = λ i w there. subst (λ n. Settled n low1 up1 wait1 i w) (sym size) (set.each i w there) }

-- ---- What was queued goes out

below_settled : (at : ℕ) (up wait : Option ℕ) (r : RouteValue) → AllSettled (Some at) up wait r → AllSettled None up wait (with_carried Below at r)
below_settled at up wait r all =
    pair_settled (Some at) up wait None up wait at r all Below (carried Below) (λ v h there s. emptied_below (length r.hops) (Some at) up wait at v s)
    (λ i v apart s. without_low (length r.hops) at up wait i v apart s)

above_settled : (at : ℕ) (low wait : Option ℕ) (r : RouteValue) → AllSettled low (Some at) wait r → AllSettled low None wait (with_carried Above at r)
above_settled at low wait r all =
    pair_settled low (Some at) wait low None wait at r all Above (carried Above) (λ v h there s. emptied_above (length r.hops) low (Some at) wait at v s)
    (λ i v apart s. without_up (length r.hops) low at wait i v apart s)

-- ---- A value-add connects, and one is made above it

upper_settled : (at : ℕ) (low : Option ℕ) (r : RouteValue) → AllSettled low None (Some at) r → AllSettled low None None (with_upper at r)
upper_settled at low r all =
    above_settled at low None (on_add value_connected at r)
    (add_settled low None (Some at) low (Some at) None at r all value_connected (λ v s. connected_settled (length r.hops) low at v s) (λ i v apart s. with_up (length r.hops) low at i v apart s))

-- the place of the value-add below a hop
abbrev place_below : ℕ → Option ℕ
place_below at = cond (at == 0) None (Some (at - 1))

-- a hop begins anew, as this one
begun_settled : (begun : Hop) (at : ℕ) (low : Option ℕ) (r : RouteValue) → AllSettled low None (place_below at) r → AllSettled low None None (upper_below at (on_hop (λ h. begun) at r))
begun_settled begun at low r all = by_flag (at == 0) (hop_settled low None (place_below at) (λ h. begun) at r all)
  where
    next : RouteValue
    next = on_hop (λ h. begun) at r

    by_flag : (flag : Bool) → AllSettled low None (cond flag None (Some (at - 1))) next → AllSettled low None None (cond flag next (with_upper (at - 1) next))
    by_flag true settled = settled
    by_flag false settled = upper_settled (at - 1) low next settled

made_settled : (at : ℕ) (wait : Option ℕ) (r : RouteValue) → at < last_of r → at ≤ length r.adds → AllSettled None None wait r → AllSettled (Some at) None wait (made_at at r)
made_settled at wait r less most all =
    let new = new_value (peer_of at r) in
    let size = length-append (take at r.adds) (new ∷ []) in
    let taken = length-take-le at r.adds most in
    record {
      fits = omega (arith, size, taken, less);
      each = new_each (Settled (length r.hops) (Some at) None wait) at r.adds new most (new_settled (length r.hops) (peer_of at r) None wait at)
          (λ i v there. with_low (length r.hops) at wait i v (all.each i v there));
    }

-- where none is made the agent is asked for, and the value-add below waits for it
last_settled : (at : ℕ) (r : RouteValue) → last_of r ≤ at → AllSettled None None (place_below at) r → AllSettled None None None r
last_settled at r last all = record {
  fits = all.fits;
  each = λ i v there. record {
    unspent = (all.each i v there).unspent;
    below = (all.each i v there).below;
    above = (all.each i v there).above;
    waits = λ _ is. by_zero i v there is (at == 0) refl (all.each i v there).waits;
  };
}
  where
    by_place : (i : ℕ) (v : ValueValue) → slice_get r.adds i ≡ Some v → (at ≡ 0 → ⊥) → awaits v.relay ≡ true → (flag : Bool) → (i == at - 1) ≡ flag
        → ((Some (at - 1) ≡ Some i → ⊥) → awaits v.relay ≡ true → i + 2 ≡ length r.hops) → i + 2 ≡ length r.hops
    by_place i v there some is true place waits =
        let least = get_within i r.adds v there in
        let here = eqb-true i (at - 1) place in
        omega (arith, least, here, some, last, all.fits)
    by_place i v there some is false place waits = waits (λ same. eqb-false i (at - 1) place (same_place same)) is

    by_zero : (i : ℕ) (v : ValueValue) → slice_get r.adds i ≡ Some v → awaits v.relay ≡ true → (flag : Bool) → (at == 0) ≡ flag
        → ((cond flag None (Some (at - 1)) ≡ Some i → ⊥) → awaits v.relay ≡ true → i + 2 ≡ length r.hops) → i + 2 ≡ length r.hops
    by_zero i v there is true zero_is waits = waits (λ no_place. absurd cc) is
    by_zero i v there is false zero_is waits = by_place i v there (eqb-false at 0 zero_is) is (i == at - 1) refl waits

connects_settled : (at : ℕ) (r : RouteValue) → at ≤ length r.adds → AllSettled None None (place_below at) r → AllSettled None None None (connected at r).1
connects_settled at r most all = by_flag (nat_lt at (last_of r)) refl
  where
    by_flag : (flag : Bool) → nat_lt at (last_of r) ≡ flag
        → AllSettled None None None (cond {A = Bool × RouteValue} flag (false, with_carried Below at (joined at (made_at at r))) (true, r)).1
    by_flag true is =
        below_settled at None None (joined at (made_at at r)) (begun_settled (hop_connected []) at (Some at) (made_at at r) (made_settled at (place_below at) r (ltb-true at (last_of r) is) most all))
    by_flag false is = let least = ltb-false at (last_of r) is in last_settled at r (omega (arith, least)) all

-- ---- The client connects, and the agent is reached

pub joins_settled : (r : RouteValue) → AllSettled None None None r → AllSettled None None None (connected 0 r).1
joins_settled r all = connects_settled 0 r (omega arith) all

pub reaches_settled : (did : Bool) (r : RouteValue) → AllSettled None None None r → AllSettled None None None (reached did r)
reaches_settled did r all = by_flag did
  where
    waiting : AllSettled None None (place_below (last_of r)) r
    waiting = weaker_all None None (place_below (last_of r)) r all

    by_flag : (flag : Bool) → AllSettled None None None (cond flag (joined (last_of r) r) (refused (last_of r) r))
    by_flag true = begun_settled (hop_connected []) (last_of r) None r waiting
    by_flag false = begun_settled hop.refused (last_of r) None r waiting

-- ---- Bytes arrive

pub delivers_settled : (side : Side) (at count : ℕ) (r : RouteValue)
    → ((v : ValueValue) (h : Hop) → slice_get r.adds at ≡ Some v → Settled (length r.hops) None None None at v → Settled (length r.hops) None None None at (delivered side count (pair v h)).add)
    → AllSettled None None None r → AllSettled None None None (delivered_at side at count r)
delivers_settled side at count r here all = pair_settled None None None None None None at r all side (delivered side count) here (λ i v apart s. s)

-- ---- A value-add takes an entry

abbrev waits_after : ValueTurn → ℕ → Option ℕ
waits_after Nothing at = None
waits_after Took at = None
waits_after Connect at = Some at

after_turn : (turn : ValueTurn) (at : ℕ) (r : RouteValue) → at < length r.adds → AllSettled None None (waits_after turn at) r → AllSettled None None None (connected_after turn at r).1
after_turn Nothing at r less all = all
after_turn Took at r less all = all
after_turn Connect at r less all =
    let some : (at + 1 == 0) ≡ false = ne_eqb (at + 1) 0 (λ is. absurd (omega (arith, is))) in
    let same : at ≡ at + 1 - 1 = omega arith in
    let place : Some at ≡ place_below (at + 1) = ap Some same ∙ sym (ap (λ b. cond b None (Some (at + 1 - 1))) some) in
    connects_settled (at + 1) r (omega (arith, less)) (subst (λ wait. AllSettled None None wait r) place all)

pub turns_settled : (side : Side) (at : ℕ) (r : RouteValue)
    → ((v : ValueValue) → slice_get r.adds at ≡ Some v → ((value_turned side v).0 ≡ Connect → ⊥) → awaits (value_turned side v).1.relay ≡ true → awaits v.relay ≡ true)
    → AllSettled None None None r → AllSettled None None None (turned side at r).1
turns_settled side at r keeps all = by_add (slice_get r.adds at) refl
  where
    carried_size : (s : Side) (x : RouteValue) → length (with_carried s at x).adds ≡ length x.adds
    carried_size s x = by_parts (slice_get x.adds at) (slice_get x.hops (beside s at))
      where
        by_parts : (add : Option ValueValue) (hop : Option Hop) → length (pair_put (carried s) s at add hop x).adds ≡ length x.adds
        by_parts None None = refl
        by_parts None (Some h) = refl
        by_parts (Some v) None = refl
        by_parts (Some v) (Some h) = set_length at x.adds (emptied s v)

    by_add : (add : Option ValueValue) → slice_get r.adds at ≡ add → AllSettled None None None (turn_put side at add r).1
    by_add None is = all
    by_add (Some v) is =
        let next = value_turned side v in
        let s = all.each at v is in
        let wait = waits_after next.0 at in
        let r1 : RouteValue = record r { adds = slice_set r.adds at next.1 } in
        let settled : AllSettled (Some at) (Some at) wait r1 =
        put_settled None None None (Some at) (Some at) wait at r all next.1
        (record { unspent = s.unspent; below = λ apart. absurd (apart refl); above = λ apart. absurd (apart refl); waits = λ apart waits. by_turn next.0 refl apart waits })
        (λ i w apart x. weaker (length r.hops) (Some at) (Some at) wait i w x) in
        let r2 = with_carried Below at r1 in
        let r3 = with_carried Above at r2 in
        let within = get_within at r.adds v is in
        let size = carried_size Above r2 ∙ carried_size Below r1 ∙ set_length at r.adds next.1 in
        after_turn next.0 at r3 (omega (arith, size, within)) (above_settled at None wait r2 (below_settled at (Some at) wait r1 settled))
      where
        by_turn : (turn : ValueTurn) → (value_turned side v).0 ≡ turn → (waits_after turn at ≡ Some at → ⊥) → awaits (value_turned side v).1.relay ≡ true → at + 2 ≡ length r.hops
        by_turn Nothing turn_is apart waits = (all.each at v is).waits (λ no_place. absurd cc) (keeps v is (λ no_turn. let no : Nothing ≡ Connect = sym turn_is ∙ no_turn in absurd cc) waits)
        by_turn Took turn_is apart waits = (all.each at v is).waits (λ no_place. absurd cc) (keeps v is (λ no_turn. let no : Took ≡ Connect = sym turn_is ∙ no_turn in absurd cc) waits)
        by_turn Connect turn_is apart waits = absurd (apart refl)

-- ---- A hop is cut

ends_settled : (side : Side) (at : ℕ) (r : RouteValue) → AllSettled None None None r → AllSettled None None None (on_add (ended side) at r)
ends_settled side at r all =
    add_settled None None None None None None at r all (ended side) (λ v s. ended_settled side (length r.hops) None None None at v s) (λ i v apart s. s)

pub cuts_settled : (at : ℕ) (r : RouteValue) → AllSettled None None None r → AllSettled None None None (cut at r).1
cuts_settled at r all = by_flag (is_live at r)
  where
    r2 : RouteValue
    r2 = on_add (ended Below) at (on_hop hop.cut at r)

    settled : AllSettled None None None r2
    settled = ends_settled Below at (on_hop hop.cut at r) (hop_settled None None None hop.cut at r all)

    by_zero : (flag : Bool) → AllSettled None None None (cond flag r2 (on_add (ended Above) (at - 1) r2))
    by_zero true = settled
    by_zero false = ends_settled Above (at - 1) r2 settled

    by_flag : (flag : Bool) → AllSettled None None None (cond {A = Bool × RouteValue} flag (true, ended_below at r2) (false, r)).1
    by_flag true = by_zero (at == 0)
    by_flag false = all
