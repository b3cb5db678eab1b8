-- A way as it stands, from one of its ends on, and a value-add with a hop beside it that moves on.
use Rattle.std.proofs.Common.{◌≡◌, ℕ, zero, suc, ◌+◌, ◌<◌, ◌≤◌, Bool, true, false, List, [], ◌∷◌, length, map, Some, refl, sym, ap, ◌∙◌, subst, arith, add-one}
use Rattle.std.specs.Prelude.{IsSome, slice_get, slice_set}
use Rattle.std.specs.List.{AllByRecursion}
use Rattle.value_node.specs.declared.states.Side.{Side}
use Rattle.value_node.specs.declared.states.Side.TheVariants.{Below, Above}
use Rattle.chain_route.specs.Carrying.{HaveConnected, IsDead, Made, past_of}
use Rattle.chain_route.specs.Route.{beside}
use Rattle.chain_route.specs.declared.hop.Hop.{Hop}
use Rattle.chain_route.proofs.Adds.{tip_above}
use Rattle.chain_route.proofs.Each.{EachCarries, LastUnconnected, last_kept}
use Rattle.chain_route.proofs.Flows.{Tip}
use Rattle.chain_route.proofs.Moving.{Moves}
use Rattle.chain_route.proofs.Places.{last_place}
use Rattle.chain_route.proofs.Stepping.{IsOpenAt}
use Rattle.chain_route.proofs.Towers.{above_changed, below_changed}
use Rattle.list_laws.proofs.Lists.{set_length}

-- ---- Lists, changed at a place

pub set_mapped : {A B : Type 0} → (f : A → B) (i : ℕ) (xs : List A) (x : A) → slice_set (map f xs) i (f x) ≡ map f (slice_set xs i x)
set_mapped f i [] x = refl
set_mapped f zero (y ∷ ys) x = refl
set_mapped f (suc i) (y ∷ ys) x = ap (λ zs. f y ∷ zs) (set_mapped f i ys x)

pub record IsMapped {A B : Type 0} (f : A → B) (xs : List A) (i : ℕ) (y : B) : Type 0 where
  pub from : A
  pub there : slice_get xs i ≡ Some from
  pub value : f from ≡ y

pub get_mapped : {A B : Type 0} → (f : A → B) (i : ℕ) (xs : List A) (y : B) → slice_get (map f xs) i ≡ Some y → IsMapped f xs i y
get_mapped f i [] y is = absurd cc
get_mapped f zero (x ∷ xs) y is = record { from = x; there = refl; value = cc }
get_mapped f (suc i) (x ∷ xs) y is = let rest = get_mapped f i xs y is in record { from = rest.from; there = rest.there; value = rest.value }

-- ---- The last hop

abbrev pub LastDead : List Hop → Type 0
LastDead [] = Unit {0}
LastDead (hop ∷ []) = IsDead hop
LastDead (hop ∷ hops) = LastDead hops

pub last_set : (i : ℕ) (hops : List Hop) (hop after : Hop) → slice_get hops i ≡ Some hop → (IsDead hop → IsDead after) → LastDead hops → LastDead (slice_set hops i after)
last_set i [] hop after there dead last = last
last_set zero (h ∷ []) hop after there dead last = let is : h ≡ hop = cc in dead (subst IsDead is last)
last_set zero (h ∷ g ∷ hops) hop after there dead last = last
last_set (suc i) (h ∷ []) hop after there dead last = last
last_set (suc zero) (h ∷ g ∷ hops) hop after there dead last = last_set zero (g ∷ hops) hop after there dead last
last_set (suc (suc i)) (h ∷ g ∷ hops) hop after there dead last = last_set (suc i) (g ∷ hops) hop after there dead last

pub last_dead : (hops : List Hop) (last : Hop) → slice_get hops (last_place hops) ≡ Some last → LastDead hops → IsDead last
last_dead [] last there dead = absurd cc
last_dead (h ∷ []) last there dead = let is : h ≡ last = cc in subst IsDead is dead
last_dead (h ∷ g ∷ hops) last there dead = last_dead (g ∷ hops) last there dead

-- ---- The value-adds that have connected

pub connected_set : (i : ℕ) (made : List Made) (is_reached : Bool) (m next : Made) → slice_get made i ≡ Some m → (IsSome (past_of m).connection → IsSome (past_of next).connection)
    → HaveConnected made is_reached → HaveConnected (slice_set made i next) is_reached
connected_set i [] is_reached m next there keeps have = have
connected_set zero (x ∷ []) is_reached m next there keeps have =
    let is : x ≡ m = cc in λ reached. keeps (subst (λ y. IsSome (past_of y).connection) is (have reached))
connected_set zero (x ∷ y ∷ made) is_reached m next there keeps have =
    let is : x ≡ m = cc in (keeps (subst (λ z. IsSome (past_of z).connection) is have.0), have.1)
connected_set (suc i) (x ∷ []) is_reached m next there keeps have = have
connected_set (suc zero) (x ∷ y ∷ made) is_reached m next there keeps have = (have.0, connected_set zero (y ∷ made) is_reached m next there keeps have.1)
connected_set (suc (suc i)) (x ∷ y ∷ made) is_reached m next there keeps have = (have.0, connected_set (suc i) (y ∷ made) is_reached m next there keeps have.1)

-- ---- A way

pub record Way (lower : Tip) (hops : List Hop) (made : List Made) (agent : Tip) : Type 0 where
  pub all : EachCarries lower hops made agent
  pub connected : HaveConnected made agent.is_used
  pub reached : agent.is_used ≡ true → length hops ≡ length made + 1
  pub unreached : agent.is_used ≡ false → LastDead hops  -- none is in flight on the hop to the agent
  pub unconnected : length made + 1 < length hops → LastUnconnected made  -- not all value-adds were made

-- nothing is in flight where no value-add was made and the agent wasn't reached
pub all_dead : (lower : Tip) (hops : List Hop) (agent : Tip) → agent.is_used ≡ false → Way lower hops [] agent → AllByRecursion IsDead hops
all_dead lower [] agent unreached way = absurd way.all
all_dead lower (h ∷ []) agent unreached way = (way.unreached unreached, tt)
all_dead lower (h ∷ g ∷ hops) agent unreached way = way.all

-- it has more hops than value-adds
pub made_size : (lower : Tip) (hops : List Hop) (made : List Made) (agent : Tip) → EachCarries lower hops made agent → length made + 1 ≤ length hops
made_size lower [] made agent all = absurd all
made_size lower (h ∷ hops) [] agent all = omega arith
made_size lower (h ∷ hops) (m ∷ made) agent all = let rest = made_size (tip_above m) hops made agent all.1 in omega (arith, rest)

all_moved : (side : Side) (at : ℕ) (lower : Tip) (hops : List Hop) (made : List Made) (agent : Tip) (m next : Made) (hop after : Hop)
    → slice_get made at ≡ Some m → slice_get hops (beside side at) ≡ Some hop → Moves side m next hop after
    → EachCarries lower hops made agent → EachCarries lower (slice_set hops (beside side at) after) (slice_set made at next) agent
all_moved Below at lower hops made agent m next hop after there hop_is moves all = below_changed at lower hops made agent m next hop after there hop_is moves.moved moves.rests all
all_moved Above at lower hops made agent m next hop after there hop_is moves all =
    subst (λ i. EachCarries lower (slice_set hops i after) (slice_set made at next) agent) (sym (add-one at))
    (above_changed at lower hops made agent m next hop after there (subst (λ i. slice_get hops i ≡ Some hop) (add-one at) hop_is) moves.moved moves.rests all)

pub way_moved : (side : Side) (at : ℕ) (lower : Tip) (hops : List Hop) (made : List Made) (agent : Tip) (m next : Made) (hop after : Hop)
    → slice_get made at ≡ Some m → slice_get hops (beside side at) ≡ Some hop → Moves side m next hop after
    → Way lower hops made agent → Way lower (slice_set hops (beside side at) after) (slice_set made at next) agent
way_moved side at lower hops made agent m next hop after there hop_is moves way = record {
  all = all_moved side at lower hops made agent m next hop after there hop_is moves way.all;
  connected = connected_set at made agent.is_used m next there moves.connected way.connected;
  reached = λ is. set_length (beside side at) hops after ∙ way.reached is ∙ ap (λ n. n + 1) (sym (set_length at made next));
  unreached = λ is. last_set (beside side at) hops hop after hop_is moves.moved.dead (way.unreached is);
  unconnected = λ more. last_kept at made m next there moves.unconnected (way.unconnected (fewer more));
}
  where
    fewer : length (slice_set made at next) + 1 < length (slice_set hops (beside side at) after) → length made + 1 < length hops
    fewer more = omega (arith, more, set_length at made next, set_length (beside side at) hops after)

-- ---- Where a hop is live the value-add below it has connected

pub not_live : (h : Hop) → h.is_live ≡ true → IsDead h → ⊥
not_live h live dead = let no : false ≡ true = sym (ap (λ x. x.is_live) dead) ∙ live in absurd cc

-- the way from the next value-add on
pub way_above : (lower : Tip) (h g : Hop) (hops : List Hop) (x y : Made) (made : List Made) (agent : Tip)
    → Way lower (h ∷ g ∷ hops) (x ∷ y ∷ made) agent → Way (tip_above x) (g ∷ hops) (y ∷ made) agent
way_above lower h g hops x y made agent way = record {
  all = way.all.1;
  connected = way.connected.1;
  reached = λ is. let all = way.reached is in omega (arith, all);
  unreached = way.unreached;
  unconnected = λ more. way.unconnected (omega (arith, more));
}

pub above_live : (at : ℕ) (lower : Tip) (hops : List Hop) (made : List Made) (agent : Tip) (m : Made) (hop : Hop)
    → slice_get made at ≡ Some m → slice_get hops (suc at) ≡ Some hop → hop.is_live ≡ true → Way lower hops made agent → IsSome (past_of m).connection
above_live at lower [] made agent m hop there hop_is live way = absurd way.all
above_live at lower (h ∷ hops) [] agent m hop there hop_is live way = absurd cc
above_live at lower (h ∷ []) (x ∷ made) agent m hop there hop_is live way = absurd way.all.1
above_live zero lower (h ∷ g ∷ []) (x ∷ []) agent m hop there hop_is live way = by_flag agent.is_used refl
  where
    is_m : x ≡ m
    is_m = cc

    by_flag : (flag : Bool) → agent.is_used ≡ flag → IsSome (past_of m).connection
    by_flag true is = subst (λ y. IsSome (past_of y).connection) is_m (way.connected is)
    by_flag false is = let is_hop : g ≡ hop = cc in absurd (not_live hop live (subst IsDead is_hop (way.unreached is)))
above_live zero lower (h ∷ g ∷ f ∷ hops) (x ∷ []) agent m hop there hop_is live way =
    let is_hop : g ≡ hop = cc in absurd (not_live hop live (subst IsDead is_hop way.all.1.0))
above_live zero lower (h ∷ g ∷ hops) (x ∷ y ∷ made) agent m hop there hop_is live way =
    let is_m : x ≡ m = cc in subst (λ z. IsSome (past_of z).connection) is_m way.connected.0
above_live (suc at) lower (h ∷ g ∷ hops) (x ∷ []) agent m hop there hop_is live way = absurd cc
above_live (suc at) lower (h ∷ g ∷ hops) (x ∷ y ∷ made) agent m hop there hop_is live way =
    above_live at (tip_above x) (g ∷ hops) (y ∷ made) agent m hop there hop_is live (way_above lower h g hops x y made agent way)

pub is_open : (side : Side) (at : ℕ) (lower : Tip) (hops : List Hop) (made : List Made) (agent : Tip) (m : Made) (hop : Hop)
    → slice_get made at ≡ Some m → slice_get hops (beside side at) ≡ Some hop → Way lower hops made agent → hop.is_live ≡ true → IsOpenAt side m
is_open Below at lower hops made agent m hop there hop_is way live = tt
is_open Above at lower hops made agent m hop there hop_is way live =
    above_live at lower hops made agent m hop there (subst (λ i. slice_get hops i ≡ Some hop) (add-one at) hop_is) live way
