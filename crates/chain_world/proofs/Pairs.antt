-- A value-add of a way and a hop beside it change together: one piece after the other.
use Rattle.std.proofs.Common.{◌≡◌, ℕ, zero, suc, List, Option, Some, None, refl, sym, ap, ◌∙◌}
use Rattle.std.specs.Prelude.{slice_get, slice_set}
use Rattle.value_node.specs.ValueValue.{ValueValue}
use Rattle.value_node.specs.declared.states.Side.{Side}
use Rattle.chain_route.specs.Hop.{lane_to}
use Rattle.chain_route.specs.Lane.{size_in}
use Rattle.chain_route.specs.Passing.{Pair, all_delivered, delivered, most_bytes, pair, pieces}
use Rattle.chain_route.specs.Route.{all_delivered_at, beside, delivered_at, on_pair, pair_put, with_pair}
use Rattle.chain_route.specs.RouteValue.{RouteValue}
use Rattle.chain_route.specs.declared.hop.Hop.{Hop}
use Rattle.chain_route.proofs.Resting.{again}
use Rattle.chain_world.specs.Past.{pieces_for}
use Rattle.chain_world.proofs.Lists.{set_twice}
use Rattle.list_laws.proofs.Lists.{get_set, set_same}

abbrev with_lists : List ValueValue → List Hop → RouteValue → RouteValue
with_lists adds hops r = record r { adds = adds; hops = hops }

put_twice : (f g : Pair → Pair) (side : Side) (at : ℕ) (add : Option ValueValue) (there : Option Hop) (r : RouteValue) → slice_get r.adds at ≡ add → slice_get r.hops (beside side at) ≡ there
    → on_pair f side at (pair_put g side at add there r) ≡ pair_put (λ p. f (g p)) side at add there r
put_twice f g side at None None r is_add is_hop = ap (λ o. pair_put f side at o (slice_get r.hops (beside side at)) r) is_add ∙ ap (λ o. pair_put f side at None o r) is_hop
put_twice f g side at None (Some h) r is_add is_hop = ap (λ o. pair_put f side at o (slice_get r.hops (beside side at)) r) is_add ∙ ap (λ o. pair_put f side at None o r) is_hop
put_twice f g side at (Some v) None r is_add is_hop = ap (λ o. pair_put f side at o (slice_get r.hops (beside side at)) r) is_add ∙ ap (λ o. pair_put f side at (Some v) o r) is_hop
put_twice f g side at (Some v) (Some h) r is_add is_hop =
    let p = g (pair v h) in
    let next = with_pair side at p r in
    ap (λ o. pair_put f side at o (slice_get next.hops (beside side at)) next) (get_set at r.adds p.add v is_add)
    ∙ ap (λ o. pair_put f side at (Some p.add) o next) (get_set (beside side at) r.hops p.hop h is_hop)
    ∙ ap (λ adds. with_lists adds (slice_set next.hops (beside side at) (f p).hop) r) (set_twice at r.adds p.add (f p).add)
    ∙ ap (λ hops. with_lists (slice_set r.adds at (f p).add) hops r) (set_twice (beside side at) r.hops p.hop (f p).hop)

pair_twice : (f g : Pair → Pair) (side : Side) (at : ℕ) (r : RouteValue) → on_pair f side at (on_pair g side at r) ≡ on_pair (λ p. f (g p)) side at r
pair_twice f g side at r = put_twice f g side at (slice_get r.adds at) (slice_get r.hops (beside side at)) r refl refl

put_still : (side : Side) (at : ℕ) (add : Option ValueValue) (there : Option Hop) (r : RouteValue) → slice_get r.adds at ≡ add → slice_get r.hops (beside side at) ≡ there → pair_put (λ p. p) side at add there r ≡ r
put_still side at None None r is_add is_hop = refl
put_still side at None (Some h) r is_add is_hop = refl
put_still side at (Some v) None r is_add is_hop = refl
put_still side at (Some v) (Some h) r is_add is_hop =
    ap (λ adds. with_lists adds (slice_set r.hops (beside side at) h) r) (set_same at r.adds v is_add) ∙ ap (λ hops. with_lists r.adds hops r) (set_same (beside side at) r.hops h is_hop)

-- so many pieces arrive
pieces_on : (n : ℕ) (side : Side) (at : ℕ) (r : RouteValue) → on_pair (pieces n side) side at r ≡ again (delivered_at side at most_bytes) n r
pieces_on zero side at r = put_still side at (slice_get r.adds at) (slice_get r.hops (beside side at)) r refl refl
pieces_on (suc n) side at r =
    sym (pair_twice (pieces n side) (delivered side most_bytes) side at r) ∙ pieces_on n side at (delivered_at side at most_bytes r)

-- all that is in flight arrives in so many pieces
abbrev InPieces : Side → ℕ → ℕ → RouteValue → Type 0
InPieces side at count r = all_delivered_at side at r ≡ again (delivered_at side at most_bytes) count r

all_put : (side : Side) (at : ℕ) (add : Option ValueValue) (there : Option Hop) (r : RouteValue) → slice_get r.adds at ≡ add → slice_get r.hops (beside side at) ≡ there → InPieces side at (pieces_for side add there) r
all_put side at None None r is_add is_hop = ap (λ o. pair_put (all_delivered side) side at o (slice_get r.hops (beside side at)) r) is_add ∙ ap (λ o. pair_put (all_delivered side) side at None o r) is_hop
all_put side at None (Some h) r is_add is_hop = ap (λ o. pair_put (all_delivered side) side at o (slice_get r.hops (beside side at)) r) is_add ∙ ap (λ o. pair_put (all_delivered side) side at None o r) is_hop
all_put side at (Some v) None r is_add is_hop = ap (λ o. pair_put (all_delivered side) side at o (slice_get r.hops (beside side at)) r) is_add ∙ ap (λ o. pair_put (all_delivered side) side at (Some v) o r) is_hop
all_put side at (Some v) (Some h) r is_add is_hop =
    let n = size_in (lane_to side h) in
    let found : (f : Pair → Pair) → on_pair f side at r ≡ with_pair side at (f (pair v h)) r =
    λ f. ap (λ o. pair_put f side at o (slice_get r.hops (beside side at)) r) is_add ∙ ap (λ o. pair_put f side at (Some v) o r) is_hop in
    found (all_delivered side) ∙ sym (found (pieces n side)) ∙ pieces_on n side at r

pub in_pieces : (side : Side) (at : ℕ) (r : RouteValue)
    → all_delivered_at side at r ≡ again (delivered_at side at most_bytes) (pieces_for side (slice_get r.adds at) (slice_get r.hops (beside side at))) r
in_pieces side at r = all_put side at (slice_get r.adds at) (slice_get r.hops (beside side at)) r refl refl
