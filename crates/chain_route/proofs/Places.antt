-- One hop of a way changes, or one value-add whose ends stay as they are, and all carry on.
use Rattle.std.proofs.Common.{◌≡◌, ℕ, zero, suc, ◌+◌, ◌-◌, List, [], ◌∷◌, length, Some, refl, sym, subst, arith}
use Rattle.std.specs.Prelude.{slice_get, slice_set}
use Rattle.std.specs.List.{AllByRecursion}
use Rattle.chain_route.specs.Carrying.{IsDead, Made, end_below, past_of}
use Rattle.chain_route.specs.declared.hop.Hop.{Hop}
use Rattle.chain_route.proofs.Adds.{tip_above}
use Rattle.chain_route.proofs.Each.{EachCarries}
use Rattle.chain_route.proofs.Flows.{HopHolds, Tip, used}

-- ---- Hops beyond the last value-add that was made

all_set : (i : ℕ) (hops : List Hop) (hop after : Hop) → slice_get hops i ≡ Some hop → (IsDead hop → IsDead after) → AllByRecursion IsDead hops → AllByRecursion IsDead (slice_set hops i after)
all_set i [] hop after there dead all = all
all_set zero (h ∷ hops) hop after there dead all = let is : h ≡ hop = cc in (dead (subst IsDead is all.0), all.1)
all_set (suc i) (h ∷ hops) hop after there dead all = (all.0, all_set i hops hop after there dead all.1)

pub dead_set : (i : ℕ) (lower : Tip) (first h : Hop) (hops : List Hop) (agent : Tip) (hop after : Hop) → slice_get (h ∷ hops) i ≡ Some hop → (IsDead hop → IsDead after)
    → AllByRecursion IsDead (first ∷ h ∷ hops) → EachCarries lower (first ∷ slice_set (h ∷ hops) i after) [] agent
dead_set zero lower first h hops agent hop after there dead all = (all.0, all_set zero (h ∷ hops) hop after there dead all.1)
dead_set (suc i) lower first h hops agent hop after there dead all = (all.0, all_set (suc i) (h ∷ hops) hop after there dead all.1)

-- ---- A value-add whose ends stay as they are

pub same_ends : (at : ℕ) (lower : Tip) (hops : List Hop) (made : List Made) (agent : Tip) (m next : Made) → slice_get made at ≡ Some m
    → end_below (past_of next) ≡ end_below (past_of m) → tip_above next ≡ tip_above m
    → EachCarries lower hops made agent → EachCarries lower hops (slice_set made at next) agent
same_ends at lower [] made agent m next there below above all = absurd all
same_ends at lower (h ∷ hops) [] agent m next there below above all = all
same_ends zero lower (h ∷ hops) (x ∷ made) agent m next there below above all =
    let is : x ≡ m = cc in
    let first : HopHolds h lower (used (end_below (past_of m))) = subst (λ y. HopHolds h lower (used (end_below (past_of y)))) is all.0 in
    let rest : EachCarries (tip_above m) hops made agent = subst (λ y. EachCarries (tip_above y) hops made agent) is all.1 in
    (subst (λ e. HopHolds h lower (used e)) (sym below) first, subst (λ e. EachCarries e hops made agent) (sym above) rest)
same_ends (suc at) lower (h ∷ hops) (x ∷ made) agent m next there below above all = (all.0, same_ends at (tip_above x) hops made agent m next there below above all.1)

-- ---- The last hop, with the agent's end above it

abbrev pub last_place : List Hop → ℕ
last_place [] = 0
last_place (hop ∷ []) = 0
last_place (hop ∷ hops) = suc (last_place hops)

pub last_is : (hop : Hop) (hops : List Hop) → length (hop ∷ hops) - 1 ≡ last_place (hop ∷ hops)
last_is hop hops = let size = length_is hop hops in omega (arith, size)
  where
    length_is : (h : Hop) (hs : List Hop) → length (h ∷ hs) ≡ last_place (h ∷ hs) + 1
    length_is h [] = refl
    length_is h (g ∷ hs) = let rest = length_is g hs in omega (arith, rest)

-- there is one
pub record HasLast (hops : List Hop) : Type 0 where
  pub last : Hop
  pub there : slice_get hops (last_place hops) ≡ Some last

pub has_last : (hop : Hop) (hops : List Hop) → HasLast (hop ∷ hops)
has_last hop [] = record { last = hop; there = refl }
has_last hop (h ∷ hops) = let rest = has_last h hops in record { last = rest.last; there = rest.there }

pub last_changed : (agent next : Tip) (lower : Tip) (hops : List Hop) (made : List Made) (last after : Hop) → slice_get hops (last_place hops) ≡ Some last
    → ((l : Tip) → HopHolds last l agent → HopHolds after l next) → (IsDead last → IsDead after)
    → EachCarries lower hops made agent → EachCarries lower (slice_set hops (last_place hops) after) made next
last_changed agent next lower [] made last after is carries dead all = absurd all
last_changed agent next lower (hop ∷ []) (m ∷ made) last after is carries dead all = absurd all.1
last_changed agent next lower (hop ∷ []) [] last after is carries dead all =
    let same : hop ≡ last = cc in carries lower (subst (λ h. HopHolds h lower agent) same all)
last_changed agent next lower (hop ∷ h ∷ hops) (m ∷ made) last after is carries dead all =
    (all.0, last_changed agent next (tip_above m) (h ∷ hops) made last after is carries dead all.1)
last_changed agent next lower (hop ∷ h ∷ hops) [] last after is carries dead all =
    dead_set (last_place (h ∷ hops)) lower hop h hops next last after is dead all
