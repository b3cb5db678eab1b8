-- What is done to a store keeps it small, and its blocks filled.
use Rattle.std.proofs.Common.{◌≡◌, ℕ, suc, ◌+◌, ◌<◌, ◌≤◌, nat_eq, Bool, true, false, cond, not, ◌&&◌, None, Some, Option, List, [], ◌∷◌, ◌++◌, length, get_or, take, drop, filter, position, refl, sym, ap, ◌∙◌, arith, length-take, subst, inl, inr, ◌⊎◌}
use Rattle.std.proofs.Math.Seq.{drop-cons}
use Rattle.std.specs.List.{All, AllPairs, remove}
use Rattle.std.proofs.lemmas.Bool.{cases_lt, eqb-true, eq-eqb, false_from_ne_true, not-true}
use Rattle.std.proofs.lemmas.List.{get_or-take}
use Rattle.std.proofs.lemmas.List.Edits.{length-remove, get_or-remove_below, get_or-remove_above}
use Rattle.std.proofs.lemmas.List.Elements.{All-append, All-cons, All-drop, All-filter, All-from_get_or, All-take, All-weaker, filter_passes}
use Rattle.std.proofs.lemmas.List.Kept.{AllPairs-cons, AllPairs-filter}
use Rattle.std.proofs.lemmas.List.Quantifiers.{all_pairs_remove, position-Some}
use Rattle.block_store.specs.Blocks.{has_range, is_same, overlaps}
use Rattle.block_store.specs.Laws.{StaysSmall, Step, adding, touching, dropping_process, dropping_range, clearing, blocks_after, blocks_after_all}
use Rattle.block_store.specs.Store.{IsKept, IsSmall, added, moved_first}
use Rattle.block_store.specs.declared.block.Block.{Block}

-- two blocks are not the same
abbrev AreOther : Block → Block → Type 0
AreOther one other = is_same one other ≡ false

-- ---- a filter

shorter_by : (n : ℕ) (block : Block) (blocks : List Block) (b : Bool) → length blocks ≤ n → length (cond b (block ∷ blocks) blocks) ≤ n + 1
shorter_by n block blocks true fewer = omega arith
shorter_by n block blocks false fewer = omega arith

shorter : (p : Block → Bool) (blocks : List Block) → length (filter p blocks) ≤ length blocks
shorter p [] = omega arith
shorter p (block ∷ blocks) =
    let more : length (cond (p block) (block ∷ filter p blocks) (filter p blocks)) ≤ length blocks + 1 =
    shorter_by (length blocks) block (filter p blocks) (p block) (shorter p blocks) in
    omega arith

small_filter : (p : Block → Bool) (blocks : List Block) → IsSmall blocks → IsSmall (filter p blocks)
small_filter p blocks small = record {
  few = omega (arith, shorter p blocks, small.few);
  differ = AllPairs-filter AreOther p blocks small.differ;
}

pub kept_filter : (p : Block → Bool) (blocks : List Block) → IsKept blocks → IsKept (filter p blocks)
kept_filter p blocks kept = record {
  small = small_filter p blocks kept.small;
  filled = All-filter p (λ block. 0 < length block.bytes) blocks kept.filled;
}

-- ---- a block that is added

pairs_take : (n : ℕ) (blocks : List Block) → AllPairs AreOther blocks → AllPairs AreOther (take n blocks)
pairs_take n blocks differ i j d below within =
    let inside : j < n = omega (arith, length-take n blocks) in
    let there : j < length blocks = omega (arith, length-take n blocks) in
    rw (get_or-take n blocks i d (omega arith), get_or-take n blocks j d inside) (differ i j d below there)

small_added : (block : Block) (blocks : List Block) → IsSmall blocks → IsSmall (added block blocks)
small_added block blocks small =
    let others : List Block = filter (λ other. not (is_same block other)) blocks in
    let apart : All (AreOther block) others =
    All-weaker (λ other. not (is_same block other) ≡ true) (AreOther block) (λ other. not-true (is_same block other)) others
    (filter_passes (λ other. not (is_same block other)) blocks) in
    record {
      few = omega (arith, length-take 63 others);
      differ = pairs_take 64 (block ∷ others) (AllPairs-cons AreOther block others apart (small_filter (λ other. not (is_same block other)) blocks small).differ);
    }

pub kept_added : (block : Block) (blocks : List Block) → 0 < length block.bytes → IsKept blocks → IsKept (added block blocks)
kept_added block blocks filled kept = record {
  small = small_added block blocks kept.small;
  filled = All-take (λ b. 0 < length b.bytes) 64 (block ∷ filter (λ other. not (is_same block other)) blocks)
      (All-cons (λ b. 0 < length b.bytes) block (filter (λ other. not (is_same block other)) blocks) filled
      (All-filter (λ other. not (is_same block other)) (λ b. 0 < length b.bytes) blocks kept.filled));
}

-- ---- a block that is moved first

eq_swap : (m n : ℕ) → nat_eq m n ≡ nat_eq n m
eq_swap m n = by (nat_eq m n) refl
  where
    by : (b : Bool) → nat_eq m n ≡ b → b ≡ nat_eq n m
    by true is = sym (eq-eqb n m (sym (eqb-true m n is)))
    by false is = sym (false_from_ne_true _ (λ same. let there : nat_eq m n ≡ true = eq-eqb m n (sym (eqb-true n m same)) in cc))

pub same_swap : (one other : Block) → is_same one other ≡ is_same other one
same_swap one other =
    ap (λ b. b && nat_eq one.addr other.addr && nat_eq (length one.bytes) (length other.bytes)) (eq_swap one.process other.process)
    ∙ ap (λ b. nat_eq other.process one.process && b && nat_eq (length one.bytes) (length other.bytes)) (eq_swap one.addr other.addr)
    ∙ ap (λ b. nat_eq other.process one.process && nat_eq other.addr one.addr && b) (eq_swap (length one.bytes) (length other.bytes))

moved_is : (blocks : List Block) (at : ℕ) (d : Block) → at < length blocks → moved_first (Some at) blocks ≡ get_or blocks at d ∷ remove blocks at
moved_is blocks at d within = ap (λ rest. take 1 rest ++ remove blocks at) (drop-cons blocks at d within)

apart_removed : (blocks : List Block) (at : ℕ) (d : Block) → at < length blocks → AllPairs AreOther blocks → All (AreOther (get_or blocks at d)) (remove blocks at)
apart_removed blocks at d within differ = All-from_get_or (AreOther (get_or blocks at d)) (remove blocks at) d (λ k below. by k below (cases_lt k at))
  where
    by : (k : ℕ) → k < length (remove blocks at) → (k < at) ⊎ (at ≤ k) → AreOther (get_or blocks at d) (get_or (remove blocks at) k d)
    by k below (inl before) =
        rw (get_or-remove_below blocks at d k before within) (same_swap (get_or blocks at d) (get_or blocks k d) ∙ differ k at d before within)
    by k below (inr behind) =
        rw (get_or-remove_above blocks at d k behind within) (differ at (k + 1) d (omega arith) (omega (arith, length-remove blocks at within)))

small_moved_at : (blocks : List Block) (at : ℕ) (d : Block) → at < length blocks → IsSmall blocks → IsSmall (get_or blocks at d ∷ remove blocks at)
small_moved_at blocks at d within small = record {
  few = omega (arith, length-remove blocks at within, small.few);
  differ = AllPairs-cons AreOther (get_or blocks at d) (remove blocks at) (apart_removed blocks at d within small.differ)
      (all_pairs_remove AreOther blocks at within small.differ);
}

small_moved : (blocks : List Block) (at : ℕ) → at < length blocks → IsSmall blocks → IsSmall (moved_first (Some at) blocks)
small_moved [] at within small = absurd (omega arith)
small_moved (first ∷ blocks) at within small =
    subst IsSmall (sym (moved_is (first ∷ blocks) at first within)) (small_moved_at (first ∷ blocks) at first within small)

filled_moved : (P : Block → Type 0) (blocks : List Block) (at : ℕ) → All P blocks → All P (moved_first (Some at) blocks)
filled_moved P blocks at all =
    All-append P (take 1 (drop at blocks)) (remove blocks at) (All-take P 1 (drop at blocks) (All-drop P at blocks all))
    (All-append P (take at blocks) (drop (suc at) blocks) (All-take P at blocks all) (All-drop P (suc at) blocks all))

pub placed_within : (p : Block → Bool) (blocks : List Block) (at : ℕ) → position p blocks ≡ Some at → at < length blocks
placed_within p [] at place = cc
placed_within p (first ∷ blocks) at place = (position-Some p (first ∷ blocks) at first place).0

pub kept_moved : (p : Block → Bool) (blocks : List Block) (at : ℕ) → position p blocks ≡ Some at → IsKept blocks → IsKept (moved_first (Some at) blocks)
kept_moved p blocks at place kept = record {
  small = small_moved blocks at (placed_within p blocks at place) kept.small;
  filled = filled_moved (λ block. 0 < length block.bytes) blocks at kept.filled;
}

small_placed : (p : Block → Bool) (blocks : List Block) (place : Option ℕ) → position p blocks ≡ place → IsSmall blocks → IsSmall (moved_first place blocks)
small_placed p blocks None is small = small
small_placed p blocks (Some at) is small = small_moved blocks at (placed_within p blocks at is) small

-- ---- any steps

pub nothing_small : IsSmall []
nothing_small = record { few = omega arith; differ = λ i j d below within. absurd (omega arith) }

small_after : (step : Step) (blocks : List Block) → IsSmall blocks → IsSmall (blocks_after step blocks)
small_after (adding block) blocks small = small_added block blocks small
small_after (touching process addr size) blocks small =
    small_placed (has_range process addr size) blocks (position (has_range process addr size) blocks) refl small
small_after (dropping_process process) blocks small = small_filter (λ block. not (nat_eq block.process process)) blocks small
small_after (dropping_range process addr size) blocks small = small_filter (λ block. not (overlaps process addr size block)) blocks small
small_after clearing blocks small = nothing_small

small_after_all : (steps : List Step) (blocks : List Block) → IsSmall blocks → IsSmall (blocks_after_all steps blocks)
small_after_all [] blocks small = small
small_after_all (step ∷ steps) blocks small = small_after_all steps (blocks_after step blocks) (small_after step blocks small)

pub stays_small : StaysSmall
stays_small steps = small_after_all steps [] nothing_small
