-- When all that is in flight to a side of a value-add has arrived, nothing is in flight there, or nothing more may arrive.
use Rattle.std.proofs.Common.{◌≡◌, ℕ, zero, suc, ◌<◌, ◌≤◌, ◌&&◌, nat_lt, Bool, true, false, List, [], ◌∷◌, ◌⊎◌, inl, inr, Option, Some, None, refl, sym, ap, ◌∙◌, subst, arith, ltb-false}
use Rattle.std.specs.Prelude.{slice_get}
use Rattle.channel_core.specs.declared.held.Outgoing.{Outgoing}
use Rattle.value_node.specs.Value.{waiting_at}
use Rattle.value_node.specs.ValueValue.{ValueValue}
use Rattle.value_node.specs.declared.states.Side.{Side}
use Rattle.chain_route.specs.Hop.{lane_to}
use Rattle.chain_route.specs.Lane.{size_in, staying}
use Rattle.chain_route.specs.Passing.{Pair, all_delivered, came, delivered, most_bytes, most_waiting, pair, pieces, queued_at, takes}
use Rattle.chain_route.specs.Route.{beside, pair_put}
use Rattle.chain_route.specs.RouteValue.{RouteValue}
use Rattle.chain_route.specs.Until.{AllArriveAtAdds, HasArrived, HasArrivedAt}
use Rattle.chain_route.specs.declared.hop.Hop.{Hop}
use Rattle.chain_route.proofs.Pieces.{lane_kept, lane_left, piece_still, piece_taken, pieces_again}
use Rattle.chain_route.proofs.Resting.{rests, size_more, stays_fewer}
use Rattle.list_laws.proofs.Lists.{get_set}

-- ---- Pieces

-- nothing is in flight, or nothing may arrive
abbrev IsOver : Side → Pair → Type 0
IsOver side p = (lane_to side p.hop ≡ []) ⊎ (takes side p.add p.hop ≡ false)

-- where nothing is counted nothing is in flight
pub none_in : (flight : List Outgoing) → size_in flight ≤ 0 → flight ≡ []
none_in [] few = refl
none_in (out ∷ outs) few = let more = size_more out outs in absurd (omega (arith, few, more))

-- a piece takes one away at least, of what there is
pub fewer_in : (count n : ℕ) (flight : List Outgoing) → 0 < count → size_in flight ≤ suc n → size_in (staying count flight) ≤ n
fewer_in count n [] some few = omega arith
fewer_in count n (out ∷ outs) some few = let less = stays_fewer count out outs some in omega (arith, less, few)

pieces_end : (n : ℕ) (side : Side) (p : Pair) → size_in (lane_to side p.hop) ≤ n → IsOver side (pieces n side p)
pieces_end zero side p few = inl (none_in (lane_to side p.hop) few)
pieces_end (suc n) side p few = by_flag (takes side p.add p.hop) refl (pieces_end n side (delivered side most_bytes p))
  where
    next : Pair
    next = delivered side most_bytes p

    by_flag : (flag : Bool) → takes side p.add p.hop ≡ flag → (size_in (lane_to side next.hop) ≤ n → IsOver side (pieces n side next)) → IsOver side (pieces n side next)
    by_flag true is later =
        let after = came side most_bytes p in
        let lane : lane_to side next.hop ≡ staying most_bytes (lane_to side p.hop) =
        ap (λ x. lane_to side x.hop) (piece_taken side most_bytes p is) ∙ lane_kept side (queued_at side after.add) after.hop ∙ lane_left side most_bytes p in
        later (subst (λ xs. size_in xs ≤ n) (sym lane) (fewer_in most_bytes n (lane_to side p.hop) (omega arith) few))
    by_flag false is later =
        let same : next ≡ p = piece_still side most_bytes p is in
        subst (IsOver side) (sym (ap (pieces n side) same ∙ pieces_again n side p ∙ rests (delivered side most_bytes) n p same)) (inr is)

all_over : (side : Side) (p : Pair) → IsOver side (all_delivered side p)
all_over side p = pieces_end (size_in (lane_to side p.hop)) side p (omega arith)

-- ---- A way

-- nothing may arrive where the hop isn't live, or 200 entries wait
pub full_or_dead : (flight : List Outgoing) (waiting : ℕ) (is_live : Bool) → (is_live && nat_lt waiting most_waiting) ≡ false → HasArrived flight waiting is_live
full_or_dead flight waiting true is = inr (inl (ltb-false waiting most_waiting is))
full_or_dead flight waiting false is = inr (inr refl)

over_arrived : (side : Side) (p : Pair) → IsOver side p → HasArrived (lane_to side p.hop) (waiting_at side p.add.relay) p.hop.is_live
over_arrived side p (inl none) = inl none
over_arrived side p (inr over) = full_or_dead (lane_to side p.hop) (waiting_at side p.add.relay) p.hop.is_live over

pair_arrived : (side : Side) (at : ℕ) (r : RouteValue) (add : Option ValueValue) (hop : Option Hop) → slice_get r.adds at ≡ add → slice_get r.hops (beside side at) ≡ hop
    → HasArrivedAt side at (pair_put (all_delivered side) side at add hop r)
pair_arrived side at r None hop is hop_is v h there here = let none : None ≡ Some v = sym is ∙ there in absurd cc
pair_arrived side at r (Some x) None is hop_is v h there here = let none : None ≡ Some h = sym hop_is ∙ here in absurd cc
pair_arrived side at r (Some x) (Some g) is hop_is v h there here =
    let p = all_delivered side (pair x g) in
    let add : Some p.add ≡ Some v = sym (get_set at r.adds p.add x is) ∙ there in
    let lane : Some p.hop ≡ Some h = sym (get_set (beside side at) r.hops p.hop g hop_is) ∙ here in
    let one : p.add ≡ v = cc in
    let two : p.hop ≡ h = cc in
    subst (λ y. HasArrived (lane_to side h) (waiting_at side y.relay) h.is_live) one
    (subst (λ y. HasArrived (lane_to side y) (waiting_at side p.add.relay) y.is_live) two (over_arrived side p (all_over side (pair x g))))

pub all_arrive_at_adds : AllArriveAtAdds
all_arrive_at_adds side at r = pair_arrived side at r (slice_get r.adds at) (slice_get r.hops (beside side at)) refl refl
