-- A value-add and the hop beside it, each lent from its list: what the way comes to with what they come to.
use Rattle.std.proofs.Common.{◌≡◌, ℕ, List, Some, None, sym, ap, ◌∙◌}
use Rattle.std.specs.Prelude.{Err, Ok, OnOk, Result, slice_get, slice_set}
use Rattle.value_node.specs.ValueValue.{ValueValue}
use Rattle.value_node.specs.declared.states.Side.{Side}
use Rattle.chain_route.specs.Hop.{sent_from}
use Rattle.chain_route.specs.Passing.{Pair, carried, emptied, pair, queued_at}
use Rattle.chain_route.specs.Route.{beside, on_pair, pair_put, with_pair}
use Rattle.chain_route.specs.RouteValue.{RouteValue}
use Rattle.chain_route.specs.declared.hop.Hop.{Hop}
use Rattle.list_laws.proofs.Lists.{set_same}

pub ok_both : {T E P Q R : Type 0} → (r : Result T E) → (P → Q → R) → OnOk r P → OnOk r Q → OnOk r R
ok_both (Ok x) f p q = f p q
ok_both (Err e) f p q = tt

abbrev pub route_of : List Hop → List ValueValue → RouteValue
route_of hops adds = record { hops = hops; adds = adds }

pub carried_pair : (side : Side) (v w : ValueValue) (h g : Hop) → w ≡ emptied side v → g ≡ sent_from side (queued_at side v) h → pair w g ≡ carried side (pair v h)
carried_pair side v w h g add hop = ap (λ x. pair x g) add ∙ ap (λ x. pair (emptied side v) x) hop

-- both are there
pub lent_both : (change : Pair → Pair) (side : Side) (at place : ℕ) (hops : List Hop) (adds : List ValueValue) (v w : ValueValue) (h g : Hop) (now next : RouteValue)
    → place ≡ beside side at → slice_get adds at ≡ Some v → slice_get hops place ≡ Some h → route_of hops adds ≡ now → next ≡ route_of (slice_set hops place g) (slice_set adds at w)
    → pair w g ≡ change (pair v h) → next ≡ on_pair change side at now
lent_both change side at place hops adds v w h g now next is add hop view inside pair_is =
    let r = route_of hops adds in
    let there : slice_get hops (beside side at) ≡ Some h = ap (slice_get hops) (sym is) ∙ hop in
    inside
    ∙ ap (λ k. route_of (slice_set hops k g) (slice_set adds at w)) is
    ∙ ap (λ p. with_pair side at p r) pair_is
    ∙ sym (ap (λ o. pair_put change side at (Some v) o r) there)
    ∙ sym (ap (λ a. pair_put change side at a (slice_get hops (beside side at)) r) add)
    ∙ ap (on_pair change side at) view

-- there is no hop
pub lent_one : (change : Pair → Pair) (side : Side) (at place : ℕ) (hops : List Hop) (adds : List ValueValue) (v : ValueValue) (now next : RouteValue)
    → place ≡ beside side at → slice_get adds at ≡ Some v → slice_get hops place ≡ None → route_of hops adds ≡ now → next ≡ route_of hops (slice_set adds at v)
    → next ≡ on_pair change side at now
lent_one change side at place hops adds v now next is add none view inside =
    let r = route_of hops adds in
    let there : slice_get hops (beside side at) ≡ None = ap (slice_get hops) (sym is) ∙ none in
    inside
    ∙ ap (route_of hops) (set_same at adds v add)
    ∙ sym (ap (λ o. pair_put change side at (Some v) o r) there)
    ∙ sym (ap (λ a. pair_put change side at a (slice_get hops (beside side at)) r) add)
    ∙ ap (on_pair change side at) view
