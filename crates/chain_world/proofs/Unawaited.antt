-- A way that waits for no channel of the agent goes on so, until its client or its last value-add asks for one; and once it
-- was given one, or was refused, it waits no more.
use Rattle.std.proofs.Common.{◌≡◌, ℕ, zero, suc, ◌+◌, ◌-◌, ◌==◌, Bool, true, false, cond, nat_lt, List, [], ◌∷◌, ◌++◌, take, Option, Some, None, refl, sym, ap, ◌∙◌, subst, arith, eqb-true, eq-eqb, ne_eqb}
use Rattle.std.specs.Prelude.{slice_get, slice_set}
use Rattle.value_node.specs.Value.{connected as value_connected, ended, new_value, turned as value_turned}
use Rattle.value_node.specs.ValueValue.{ValueValue}
use Rattle.value_node.specs.declared.states.Side.{Side}
use Rattle.value_node.specs.declared.states.Side.TheVariants.{Below, Above}
use Rattle.value_node.specs.declared.states.ValueTurn.{ValueTurn}
use Rattle.value_node.specs.declared.states.ValueTurn.TheVariants.{Nothing, Took, Connect}
use Rattle.chain_route.specs.Hop as hop
use Rattle.chain_route.specs.Lane.{arriving}
use Rattle.chain_route.specs.Passing.{Pair, carried, came, delivered, pair, takes}
use Rattle.chain_route.specs.Route.{add_put, beside, connected, connected_after, cut, ended_below, hop_put, is_live, joined, last_of, made_at, on_add, on_hop, on_pair, pair_put, peer_of, reached, turn_put, turned, upper_below, with_carried, with_upper}
use Rattle.chain_route.specs.RouteValue.{RouteValue}
use Rattle.chain_route.specs.Runs.{Past, RouteRun, awaits_of, cut_past, is_waiting, reached_past}
use Rattle.chain_route.specs.declared.hop.Hop.{Hop}
use Rattle.chain_world.proofs.Settled.{IsSettledAdd, connected_settled, emptied_settled, ended_settled, parts_settled, turn_settles}
use Rattle.chain_world.proofs.Steady.{after_turn, joined_steady, reached_steady, turn_steady}
use Rattle.list_laws.proofs.Lists.{set_length}

-- ---- The value-add at a place

abbrev IsSettledAt : List ValueValue → ℕ → Type 0
IsSettledAt adds i = awaits_of (slice_get adds i) ≡ false

set_settled : (at i : ℕ) (adds : List ValueValue) (v x : ValueValue) → slice_get adds at ≡ Some v → (IsSettledAdd v → IsSettledAdd x) → IsSettledAt adds i → IsSettledAt (slice_set adds at x) i
set_settled at i [] v x there keeps s = s
set_settled zero zero (w ∷ adds) v x there keeps s = let same : w ≡ v = cc in keeps (subst IsSettledAdd same s)
set_settled zero (suc i) (w ∷ adds) v x there keeps s = s
set_settled (suc at) zero (w ∷ adds) v x there keeps s = s
set_settled (suc at) (suc i) (w ∷ adds) v x there keeps s = set_settled at i adds v x there keeps s

set_elsewhere : (at i : ℕ) (adds : List ValueValue) (x : ValueValue) → (i ≡ at → ⊥) → IsSettledAt adds i → IsSettledAt (slice_set adds at x) i
set_elsewhere at i [] x apart s = s
set_elsewhere zero zero (w ∷ adds) x apart s = absurd (apart refl)
set_elsewhere zero (suc i) (w ∷ adds) x apart s = s
set_elsewhere (suc at) zero (w ∷ adds) x apart s = s
set_elsewhere (suc at) (suc i) (w ∷ adds) x apart s = set_elsewhere at i adds x (λ same. apart (ap suc same)) s

set_here : (at : ℕ) (adds : List ValueValue) (x : ValueValue) → IsSettledAdd x → IsSettledAt (slice_set adds at x) at
set_here at [] x s = refl
set_here zero (w ∷ adds) x s = s
set_here (suc at) (w ∷ adds) x s = set_here at adds x s

only_new : (i : ℕ) (new : ValueValue) → IsSettledAdd new → IsSettledAt (new ∷ []) i
only_new zero new s = s
only_new (suc i) new s = refl

taken_settled : (at i : ℕ) (adds : List ValueValue) (new : ValueValue) → IsSettledAdd new → IsSettledAt adds i → IsSettledAt (take at adds ++ new ∷ []) i
taken_settled zero i adds new first s = only_new i new first
taken_settled (suc at) i [] new first s = only_new i new first
taken_settled (suc at) zero (w ∷ adds) new first s = s
taken_settled (suc at) (suc i) (w ∷ adds) new first s = taken_settled at i adds new first s

-- ---- What leaves them so

record Settles (r next : RouteValue) : Type 0 where
  last : last_of next ≡ last_of r
  adds : (i : ℕ) → IsSettledAt r.adds i → IsSettledAt next.adds i

settles_none : (r : RouteValue) → Settles r r
settles_none r = record { last = refl; adds = λ i s. s }

settles_then : (r next after : RouteValue) → Settles r next → Settles next after → Settles r after
settles_then r next after one two = record { last = two.last ∙ one.last; adds = λ i s. two.adds i (one.adds i s) }

hop_put_settles : (f : Hop → Hop) (at : ℕ) (there : Option Hop) (r : RouteValue) → Settles r (hop_put f at there r)
hop_put_settles f at None r = settles_none r
hop_put_settles f at (Some h) r = record { last = ap (λ n. n - 1) (set_length at r.hops (f h)); adds = λ i s. s }

hop_settles : (f : Hop → Hop) (at : ℕ) (r : RouteValue) → Settles r (on_hop f at r)
hop_settles f at r = hop_put_settles f at (slice_get r.hops at) r

add_put_settles : (f : ValueValue → ValueValue) → ((v : ValueValue) → IsSettledAdd v → IsSettledAdd (f v)) → (at : ℕ) (there : Option ValueValue) (r : RouteValue) → slice_get r.adds at ≡ there → Settles r (add_put f at there r)
add_put_settles f keeps at None r is = settles_none r
add_put_settles f keeps at (Some v) r is = record { last = refl; adds = λ i s. set_settled at i r.adds v (f v) is (keeps v) s }

add_settles : (f : ValueValue → ValueValue) → ((v : ValueValue) → IsSettledAdd v → IsSettledAdd (f v)) → (at : ℕ) (r : RouteValue) → Settles r (on_add f at r)
add_settles f keeps at r = add_put_settles f keeps at (slice_get r.adds at) r refl

abbrev KeepsSettled : (Pair → Pair) → Type 0
KeepsSettled f = (p : Pair) → IsSettledAdd p.add → IsSettledAdd (f p).add

pair_put_settles : (f : Pair → Pair) → KeepsSettled f → (side : Side) (at : ℕ) (add : Option ValueValue) (there : Option Hop) (r : RouteValue) → slice_get r.adds at ≡ add → Settles r (pair_put f side at add there r)
pair_put_settles f keeps side at None None r is = settles_none r
pair_put_settles f keeps side at None (Some h) r is = settles_none r
pair_put_settles f keeps side at (Some v) None r is = settles_none r
pair_put_settles f keeps side at (Some v) (Some h) r is =
    let p = f (pair v h) in
    record { last = ap (λ n. n - 1) (set_length (beside side at) r.hops p.hop); adds = λ i s. set_settled at i r.adds v p.add is (keeps (pair v h)) s }

pair_settles : (f : Pair → Pair) → KeepsSettled f → (side : Side) (at : ℕ) (r : RouteValue) → Settles r (on_pair f side at r)
pair_settles f keeps side at r = pair_put_settles f keeps side at (slice_get r.adds at) (slice_get r.hops (beside side at)) r refl

carried_settles : (side : Side) (at : ℕ) (r : RouteValue) → Settles r (with_carried side at r)
carried_settles side at r = pair_settles (carried side) (λ p s. emptied_settled side p.add s) side at r

delivered_settled : (side : Side) (count : ℕ) → KeepsSettled (delivered side count)
delivered_settled side count p s = by_flag (takes side p.add p.hop)
  where
    by_flag : (flag : Bool) → IsSettledAdd (cond flag (carried side (came side count p)) p).add
    by_flag true = emptied_settled side (came side count p).add (parts_settled side (arriving count (hop.lane_to side p.hop)) p.add s)
    by_flag false = s

made_settles : (at : ℕ) (r : RouteValue) → Settles r (made_at at r)
made_settles at r = record { last = refl; adds = λ i s. taken_settled at i r.adds (new_value (peer_of at r)) refl s }

-- ---- Connections

connected_at : (at i : ℕ) (r : RouteValue) → ((i ≡ at → ⊥) → IsSettledAt r.adds i) → IsSettledAt (on_add value_connected at r).adds i
connected_at at i r others = by_place (i == at) refl (slice_get r.adds at) refl
  where
    by_place : (flag : Bool) → (i == at) ≡ flag → (there : Option ValueValue) → slice_get r.adds at ≡ there → IsSettledAt (add_put value_connected at there r).adds i
    by_place true same None is = subst (IsSettledAt r.adds) (sym (eqb-true i at same)) (ap awaits_of is)
    by_place true same (Some v) is = subst (IsSettledAt (slice_set r.adds at (value_connected v))) (sym (eqb-true i at same)) (set_here at r.adds (value_connected v) (connected_settled v))
    by_place false apart None is = others (λ same. let yes : (i == at) ≡ true = eq-eqb i at same in absurd cc)
    by_place false apart (Some v) is =
        let other : i ≡ at → ⊥ = λ same. let yes : (i == at) ≡ true = eq-eqb i at same in absurd cc in set_elsewhere at i r.adds (value_connected v) other (others other)

-- the value-add below a hop that is connected is connected with it
upper_settles : (at i : ℕ) (r : RouteValue) → ((at == 0) ≡ true → IsSettledAt r.adds i) → ((i ≡ at - 1 → ⊥) → IsSettledAt r.adds i) → IsSettledAt (upper_below at r).adds i
upper_settles at i r first others = by_flag (at == 0) refl
  where
    by_flag : (flag : Bool) → (at == 0) ≡ flag → IsSettledAt (cond flag r (with_upper (at - 1) r)).adds i
    by_flag true is = first is
    by_flag false is = (carried_settles Above (at - 1) (on_add value_connected (at - 1) r)).adds i (connected_at (at - 1) i r others)

-- a hop begins anew, as this one
begun_settles : (begun : Hop) (at i : ℕ) (r : RouteValue) → ((at == 0) ≡ true → IsSettledAt r.adds i) → ((i ≡ at - 1 → ⊥) → IsSettledAt r.adds i) → IsSettledAt (upper_below at (on_hop (λ h. begun) at r)).adds i
begun_settles begun at i r first others =
    let h = hop_settles (λ h. begun) at r in
    upper_settles at i (on_hop (λ h. begun) at r) (λ is. h.adds i (first is)) (λ apart. h.adds i (others apart))

abbrev next_of : ℕ → RouteValue → RouteValue
next_of at r = with_carried Below at (joined at (made_at at r))

next_last : (at : ℕ) (r : RouteValue) → last_of (next_of at r) ≡ last_of r
next_last at r = (carried_settles Below at (joined at (made_at at r))).last ∙ (joined_steady at (made_at at r)).last

next_settles : (at i : ℕ) (r : RouteValue) → ((at == 0) ≡ true → IsSettledAt r.adds i) → ((i ≡ at - 1 → ⊥) → IsSettledAt r.adds i) → IsSettledAt (next_of at r).adds i
next_settles at i r first others =
    let m = made_settles at r in
    (carried_settles Below at (joined at (made_at at r))).adds i (begun_settles (hop.connected []) at i (made_at at r) (λ is. m.adds i (first is)) (λ apart. m.adds i (others apart)))

-- ---- A way that waits for none

waiting_is : (x : RouteRun) (flag : Bool) → (last_of x.route == 0) ≡ flag → is_waiting x ≡ cond flag x.past.is_wanted (awaits_of (slice_get x.route.adds (last_of x.route - 1)))
waiting_is x flag is = ap (λ b. cond b x.past.is_wanted (awaits_of (slice_get x.route.adds (last_of x.route - 1)))) is

settled_after : (x : RouteRun) (next : RouteValue) (past : Past) → past.is_wanted ≡ x.past.is_wanted → Settles x.route next → is_waiting x ≡ false → is_waiting (record { route = next; past = past }) ≡ false
settled_after x next past wanted settles s = by_flag (last_of x.route == 0) refl
  where
    y : RouteRun
    y = record { route = next; past = past }

    by_flag : (flag : Bool) → (last_of x.route == 0) ≡ flag → is_waiting y ≡ false
    by_flag true is = waiting_is y true (ap (λ n. n == 0) settles.last ∙ is) ∙ wanted ∙ sym (waiting_is x true is) ∙ s
    by_flag false is =
        waiting_is y false (ap (λ n. n == 0) settles.last ∙ is) ∙ ap (λ n. awaits_of (slice_get next.adds (n - 1))) settles.last
        ∙ settles.adds (last_of x.route - 1) (sym (waiting_is x false is) ∙ s)

-- a hop changes
pub hop_unawaited : (f : Hop → Hop) (at : ℕ) (x : RouteRun) (past : Past) → past.is_wanted ≡ x.past.is_wanted → is_waiting x ≡ false → is_waiting (record { route = on_hop f at x.route; past = past }) ≡ false
hop_unawaited f at x past wanted s = settled_after x (on_hop f at x.route) past wanted (hop_settles f at x.route) s

-- a piece arrives at a value-add
pub delivered_unawaited : (side : Side) (at count : ℕ) (x : RouteRun) → is_waiting x ≡ false → is_waiting (record x { route = on_pair (delivered side count) side at x.route }) ≡ false
delivered_unawaited side at count x s =
    settled_after x (on_pair (delivered side count) side at x.route) x.past refl (pair_settles (delivered side count) (delivered_settled side count) side at x.route) s

-- a hop is cut
gone_settles : (at : ℕ) (r : RouteValue) → Settles r (ended_below at r)
gone_settles at r = by_flag (at == 0)
  where
    by_flag : (flag : Bool) → Settles r (cond flag r (on_add (ended Above) (at - 1) r))
    by_flag true = settles_none r
    by_flag false = add_settles (ended Above) (ended_settled Above) (at - 1) r

cut_settles : (at : ℕ) (r : RouteValue) → Settles r (cut at r).1
cut_settles at r = by_flag (is_live at r)
  where
    one : RouteValue
    one = on_hop hop.cut at r

    two : RouteValue
    two = on_add (ended Below) at one

    by_flag : (flag : Bool) → Settles r (cond {A = Bool × RouteValue} flag (true, ended_below at two) (false, r)).1
    by_flag true =
        settles_then r one (ended_below at two) (hop_settles hop.cut at r)
        (settles_then one two (ended_below at two) (add_settles (ended Below) (ended_settled Below) at one) (gone_settles at two))
    by_flag false = settles_none r

pub cut_last : (at : ℕ) (r : RouteValue) → last_of (cut at r).1 ≡ last_of r
cut_last at r = (cut_settles at r).last

pub cut_unawaited : (at : ℕ) (x : RouteRun) → is_waiting x ≡ false → is_waiting (record { route = (cut at x.route).1; past = cut_past at x.route x.past }) ≡ false
cut_unawaited at x s = settled_after x (cut at x.route).1 (cut_past at x.route x.past) refl (cut_settles at x.route) s

-- the client connects to a value-add
pub joined_unawaited : (x : RouteRun) (q : RouteValue) (past : Past) → past.is_wanted ≡ x.past.is_wanted → connected 0 x.route ≡ (false, q) → is_waiting x ≡ false → is_waiting (record { route = q; past = past }) ≡ false
joined_unawaited x q past wanted is s = settled_after x q past wanted (by_flag (nat_lt 0 (last_of x.route)) is) s
  where
    by_flag : (flag : Bool) → cond {A = Bool × RouteValue} flag (false, next_of 0 x.route) (true, x.route) ≡ (false, q) → Settles x.route q
    by_flag true same =
        subst (Settles x.route) (ap (λ (p : Bool × RouteValue). p.1) same)
        (record { last = next_last 0 x.route; adds = λ i t. next_settles 0 i x.route (λ first. t) (λ apart. t) })
    by_flag false same = let no : true ≡ false = ap (λ (p : Bool × RouteValue). p.0) same in absurd cc

-- a value-add takes an entry, and doesn't connect to the agent
pub turned_unawaited : (side : Side) (at : ℕ) (x : RouteRun) → (turned side at x.route).0 ≡ false → is_waiting x ≡ false → is_waiting (record x { route = (turned side at x.route).1 }) ≡ false
turned_unawaited side at x isnt s = settled_after x (turned side at x.route).1 x.past refl (by_add (slice_get x.route.adds at) refl isnt) s
  where
    r : RouteValue
    r = x.route

    carried_on : (one : RouteValue) → Settles one (with_carried Above at (with_carried Below at one))
    carried_on one = let two = with_carried Below at one in settles_then one two (with_carried Above at two) (carried_settles Below at one) (carried_settles Above at two)

    -- it doesn't connect
    stays : (v : ValueValue) → slice_get r.adds at ≡ Some v → ((value_turned side v).0 ≡ Connect → ⊥) → Settles r (after_turn side at v r)
    stays v there not =
        let taken = value_turned side v in
        let one : RouteValue = record r { adds = slice_set r.adds at taken.1 } in
        settles_then r one (after_turn side at v r) (record { last = refl; adds = λ i t. set_settled at i r.adds v taken.1 there (λ before. turn_settles side v.relay before not) t }) (carried_on one)

    -- it connects to another one
    connects : (v : ValueValue) → slice_get r.adds at ≡ Some v → Settles r (next_of (at + 1) (after_turn side at v r))
    connects v there =
        let taken = value_turned side v in
        let one : RouteValue = record r { adds = slice_set r.adds at taken.1 } in
        let next = after_turn side at v r in
        let some : ((at + 1) == 0) ≡ false = ne_eqb (at + 1) 0 (λ is. absurd (omega (arith, is))) in
        let place : (at + 1) - 1 ≡ at = omega arith in
        record {
          last = next_last (at + 1) next ∙ (turn_steady side at v r there).last;
          adds = λ i t. next_settles (at + 1) i next (λ first. absurd cc) (λ apart. (carried_on one).adds i (set_elsewhere at i r.adds taken.1 (λ same. apart (same ∙ sym place)) t));
        }

    by_end : (flag : Bool) (v : ValueValue) → slice_get r.adds at ≡ Some v → (cond {A = Bool × RouteValue} flag (false, next_of (at + 1) (after_turn side at v r)) (true, after_turn side at v r)).0 ≡ false
        → Settles r (cond {A = Bool × RouteValue} flag (false, next_of (at + 1) (after_turn side at v r)) (true, after_turn side at v r)).1
    by_end true v there not = connects v there
    by_end false v there not = absurd cc

    by_turn : (turn : ValueTurn) (v : ValueValue) → slice_get r.adds at ≡ Some v → (value_turned side v).0 ≡ turn → (connected_after turn at (after_turn side at v r)).0 ≡ false
        → Settles r (connected_after turn at (after_turn side at v r)).1
    by_turn Nothing v there is not = stays v there (λ asked. absurd cc)
    by_turn Took v there is not = stays v there (λ asked. absurd cc)
    by_turn Connect v there is not = by_end (nat_lt (at + 1) (last_of (after_turn side at v r))) v there not

    by_add : (there : Option ValueValue) → slice_get r.adds at ≡ there → (turn_put side at there r).0 ≡ false → Settles r (turn_put side at there r).1
    by_add None is not = settles_none r
    by_add (Some v) is not = by_turn (value_turned side v).0 v is refl not

-- ---- The way has reached the agent

reached_place : (did : Bool) (r : RouteValue) → (last_of r == 0) ≡ false → IsSettledAt (reached did r).adds (last_of r - 1)
reached_place true r some = begun_settles (hop.connected []) (last_of r) (last_of r - 1) r (λ none. absurd cc) (λ apart. absurd (apart refl))
reached_place false r some = begun_settles hop.refused (last_of r) (last_of r - 1) r (λ none. absurd cc) (λ apart. absurd (apart refl))

pub reached_unawaited : (did : Bool) (x : RouteRun) → is_waiting (record { route = reached did x.route; past = reached_past did x.past }) ≡ false
reached_unawaited did x = by_flag (last_of x.route == 0) refl
  where
    y : RouteRun
    y = record { route = reached did x.route; past = reached_past did x.past }

    last : last_of y.route ≡ last_of x.route
    last = (reached_steady did x.route).last

    by_flag : (flag : Bool) → (last_of x.route == 0) ≡ flag → is_waiting y ≡ false
    by_flag true is = waiting_is y true (ap (λ n. n == 0) last ∙ is)
    by_flag false is = waiting_is y false (ap (λ n. n == 0) last ∙ is) ∙ ap (λ n. awaits_of (slice_get y.route.adds (n - 1))) last ∙ reached_place did x.route is
