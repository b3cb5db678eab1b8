-- How many lists are owned: one more where a channel joins, one fewer where it leaves; and where fewer than all are, one is free.
use Rattle.std.proofs.Common.{◌≡◌, ℕ, zero, suc, ◌<◌, Bool, List, [], ◌∷◌, length, Option, Some, None, position, slice_get, slice_set, unwrap_or, refl, ap, ◌∙◌, inl, inr, arith}
use Rattle.std.specs.List.{position_or_len}
use Rattle.std.proofs.Common.{lt-ltb, one-add}
use Rattle.std.proofs.lemmas.Bool.{cases_eq, eq-eqb, ne_eqb}
use Rattle.hub_node.specs.Board.{free_list, is_nobody, list_of, owns}
use Rattle.hub_node.specs.BoardValue.{BoardValue}

abbrev pub owned : List (Option ℕ) → ℕ
owned [] = 0
owned (None ∷ owners) = owned owners
owned (Some j ∷ owners) = suc (owned owners)

position_some : (p : Option ℕ → Bool) (xs : List (Option ℕ)) → position_or_len p xs < length xs → position p xs ≡ Some (position_or_len p xs)
position_some p xs inside = rw (lt-ltb (position_or_len p xs) (length xs) inside) refl

free_place : (owners : List (Option ℕ)) → owned owners < length owners
    → (position_or_len is_nobody owners < length owners) × (slice_get owners (position_or_len is_nobody owners) ≡ Some None)
free_place [] less = absurd (omega (arith, less))
free_place (None ∷ owners) less = (omega arith, refl)
free_place (Some j ∷ owners) less = let p = free_place owners (omega (arith, less)) in let more = p.0 in (omega (arith, more), rw one-add p.1)

-- the free list is free
pub free_is : (b : BoardValue) → owned b.owners < length b.owners → slice_get b.owners (free_list b) ≡ Some None
free_is b less =
    let p = free_place b.owners less in
    ap (λ o. slice_get b.owners (unwrap_or o 0)) (position_some is_nobody b.owners p.0) ∙ p.1

own_place : (j at : ℕ) (owners : List (Option ℕ)) → slice_get owners at ≡ Some (Some j)
    → (position_or_len (owns j) owners < length owners) × (slice_get owners (position_or_len (owns j) owners) ≡ Some (Some j))
own_place j at [] is = absurd (cc)
own_place j zero (None ∷ owners) is = absurd (cc)
own_place j (suc at) (None ∷ owners) is = let p = own_place j at owners is in let more = p.0 in (omega (arith, more), rw one-add p.1)
own_place j zero (Some i ∷ owners) is = let same : i ≡ j = cc in rw (eq-eqb i j same) (omega arith, is)
own_place j (suc at) (Some i ∷ owners) is =
    let p = own_place j at owners is in
    let more = p.0 in
    elim (cases_eq i j) [
      | inl same ↦ rw (eq-eqb i j same) (omega arith, ap (λ n. Some (Some n)) same)
      | inr apart ↦ rw (ne_eqb i j apart) (omega (arith, more), rw one-add p.1)
    ]

-- the list of a channel that has one is its own
pub own_is : (j at : ℕ) (b : BoardValue) → slice_get b.owners at ≡ Some (Some j) → slice_get b.owners (list_of j b) ≡ Some (Some j)
own_is j at b is =
    let p = own_place j at b.owners is in
    ap (λ o. slice_get b.owners (unwrap_or o 0)) (position_some (owns j) b.owners p.0) ∙ p.1

pub one_joins : (j place : ℕ) (owners : List (Option ℕ)) → slice_get owners place ≡ Some None → owned (slice_set owners place (Some j)) ≡ suc (owned owners)
one_joins j place [] is = absurd (cc)
one_joins j zero (None ∷ owners) is = refl
one_joins j zero (Some i ∷ owners) is = absurd (cc)
one_joins j (suc place) (None ∷ owners) is = one_joins j place owners is
one_joins j (suc place) (Some i ∷ owners) is = ap suc (one_joins j place owners is)

pub one_leaves : (j place : ℕ) (owners : List (Option ℕ)) → slice_get owners place ≡ Some (Some j) → suc (owned (slice_set owners place None)) ≡ owned owners
one_leaves j place [] is = absurd (cc)
one_leaves j zero (None ∷ owners) is = absurd (cc)
one_leaves j zero (Some i ∷ owners) is = refl
one_leaves j (suc place) (None ∷ owners) is = one_leaves j place owners is
one_leaves j (suc place) (Some i ∷ owners) is = ap suc (one_leaves j place owners is)
