-- A way from one of its ends on: a hop, or a value-add with the hop on a side of it, changes, and all carry on.
use Rattle.std.proofs.Common.{◌≡◌, ℕ, zero, suc, List, [], ◌∷◌, Some, sym, subst}
use Rattle.std.specs.Prelude.{slice_get, slice_set}
use Rattle.value_node.specs.declared.states.Side.{Side}
use Rattle.value_node.specs.declared.states.Side.TheVariants.{Below, Above}
use Rattle.chain_route.specs.Carrying.{IsDead, Made, end_below, past_of}
use Rattle.chain_route.specs.declared.hop.Hop.{Hop}
use Rattle.chain_route.proofs.Adds.{tip_above}
use Rattle.chain_route.proofs.Each.{EachCarries}
use Rattle.chain_route.proofs.Flows.{CarriesAt, HopHolds, Tip, used}

-- ---- The first hop, with the end below it

pub first_changed : (lower next : Tip) (hop after : Hop) (hops : List Hop) (made : List Made) (agent : Tip)
    → ((upper : Tip) → HopHolds hop lower upper → HopHolds after next upper) → (IsDead hop → IsDead after)
    → EachCarries lower (hop ∷ hops) made agent → EachCarries next (after ∷ hops) made agent
first_changed lower next hop after hops (m ∷ made) agent carries dead all = (carries (used (end_below (past_of m))) all.0, all.1)
first_changed lower next hop after [] [] agent carries dead all = carries agent all
first_changed lower next hop after (h ∷ hops) [] agent carries dead all = (dead all.0, all.1)

-- ---- A value-add, with the hop below it or the one above it

-- the value-add's end on the other side stays as it is
abbrev pub end_at : Side → Made → Tip
end_at Below m = used (end_below (past_of m))
end_at Above m = tip_above m

pub record IsMoved (side : Side) (m next : Made) (hop after : Hop) : Type 0 where
  pub carries : (other : Tip) → CarriesAt side hop (end_at side m) other → CarriesAt side after (end_at side next) other
  pub dead : IsDead hop → IsDead after

pub below_changed : (at : ℕ) (lower : Tip) (hops : List Hop) (made : List Made) (agent : Tip) (m next : Made) (hop after : Hop)
    → slice_get made at ≡ Some m → slice_get hops at ≡ Some hop → IsMoved Below m next hop after → tip_above next ≡ tip_above m
    → EachCarries lower hops made agent → EachCarries lower (slice_set hops at after) (slice_set made at next) agent
below_changed at lower [] made agent m next hop after there hop_is moved same all = absurd all
below_changed at lower (h ∷ hops) [] agent m next hop after there hop_is moved same all = absurd cc
below_changed zero lower (h ∷ hops) (x ∷ made) agent m next hop after there hop_is moved same all =
    let is_m : x ≡ m = cc in
    let is_hop : h ≡ hop = cc in
    let first : HopHolds hop lower (end_at Below m) = subst (λ y. HopHolds y lower (end_at Below m)) is_hop (subst (λ y. HopHolds h lower (end_at Below y)) is_m all.0) in
    let rest : EachCarries (tip_above m) hops made agent = subst (λ y. EachCarries (tip_above y) hops made agent) is_m all.1 in
    (moved.carries lower first, subst (λ e. EachCarries e hops made agent) (sym same) rest)
below_changed (suc at) lower (h ∷ hops) (x ∷ made) agent m next hop after there hop_is moved same all =
    (all.0, below_changed at (tip_above x) hops made agent m next hop after there hop_is moved same all.1)

pub above_changed : (at : ℕ) (lower : Tip) (hops : List Hop) (made : List Made) (agent : Tip) (m next : Made) (hop after : Hop)
    → slice_get made at ≡ Some m → slice_get hops (suc at) ≡ Some hop → IsMoved Above m next hop after → end_below (past_of next) ≡ end_below (past_of m)
    → EachCarries lower hops made agent → EachCarries lower (slice_set hops (suc at) after) (slice_set made at next) agent
above_changed at lower [] made agent m next hop after there hop_is moved same all = absurd all
above_changed at lower (h ∷ hops) [] agent m next hop after there hop_is moved same all = absurd cc
above_changed at lower (h ∷ []) (x ∷ made) agent m next hop after there hop_is moved same all = absurd all.1
above_changed zero lower (h ∷ g ∷ hops) (x ∷ made) agent m next hop after there hop_is moved same all =
    let is_m : x ≡ m = cc in
    let is_hop : g ≡ hop = cc in
    let first : HopHolds h lower (end_at Below next) = subst (λ e. HopHolds h lower (used e)) (sym same) (subst (λ y. HopHolds h lower (end_at Below y)) is_m all.0) in
    let rest : EachCarries (tip_above m) (hop ∷ hops) made agent =
    subst (λ y. EachCarries (tip_above m) (y ∷ hops) made agent) is_hop (subst (λ y. EachCarries (tip_above y) (g ∷ hops) made agent) is_m all.1) in
    (first, first_changed (tip_above m) (tip_above next) hop after hops made agent moved.carries moved.dead rest)
above_changed (suc at) lower (h ∷ g ∷ hops) (x ∷ made) agent m next hop after there hop_is moved same all =
    (all.0, above_changed at (tip_above x) (g ∷ hops) made agent m next hop after there hop_is moved same all.1)
