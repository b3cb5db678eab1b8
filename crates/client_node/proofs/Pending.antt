-- The pending commands of a client: the token of each is its number, and they stand in order of issue.
use Rattle.std.proofs.Common.{◌≡◌, ℕ, ◌+◌, ◌<◌, ◌≤◌, List, [], ◌∷◌, ◌++◌, map, refl, sym, subst, inl, inr, ◌⊎◌, arith}
use Rattle.std.specs.List.{Contains}
use Rattle.std.proofs.lemmas.List.{map-append}
use Rattle.client_node.proofs.Lists.{at_front, without_cases, without_kept}
use Rattle.list_laws.proofs.Contained.{contains_at as among, none_in}

-- tokens are numbers, and rise from low on up to high
abbrev pub Rises : ℕ → List (ℕ × ℕ) → ℕ → Type 0
Rises low [] high = low ≤ high
Rises low (row ∷ rows) high = (row.0 ≡ row.1) × (low < row.1) × Rises row.1 rows high

abbrev pub numbers_of : List (ℕ × ℕ) → List ℕ
numbers_of rows = map (λ (row : ℕ × ℕ). row.1) rows

pub split_numbers : (front back : List (ℕ × ℕ)) (row : ℕ × ℕ) → numbers_of (front ++ row ∷ back) ≡ numbers_of front ++ row.1 ∷ numbers_of back
split_numbers front back row = map-append (λ (r : ℕ × ℕ). r.1) front (row ∷ back)

pub left_numbers : (front back : List (ℕ × ℕ)) → numbers_of (front ++ back) ≡ numbers_of front ++ numbers_of back
left_numbers front back = map-append (λ (r : ℕ × ℕ). r.1) front back

-- ---- where they lie

pub above : (low high number : ℕ) (rows : List (ℕ × ℕ)) → Rises low rows high → Contains (numbers_of rows) number → low < number
above low high number [] rises there = absurd (none_in number there)
above low high number (row ∷ rows) rises there =
    elim (at_front row.1 number (numbers_of rows) there) as (λ _. low < number)
    [ inl here ↦ omega arith | inr later ↦ let more = above row.1 high number rows rises.2 later in omega arith ]

pub upto : (low high : ℕ) (rows : List (ℕ × ℕ)) → Rises low rows high → low ≤ high
upto low high [] rises = rises
upto low high (row ∷ rows) rises = let more = upto row.1 high rows rises.2 in omega arith

pub below : (low high number : ℕ) (rows : List (ℕ × ℕ)) → Rises low rows high → Contains (numbers_of rows) number → number ≤ high
below low high number [] rises there = absurd (none_in number there)
below low high number (row ∷ rows) rises there =
    elim (at_front row.1 number (numbers_of rows) there) as (λ _. number ≤ high)
    [ inl here ↦ let most = upto row.1 high rows rises.2 in omega arith | inr later ↦ below row.1 high number rows rises.2 later ]

pub is_there : (front back : List (ℕ × ℕ)) (row : ℕ × ℕ) → Contains (numbers_of (front ++ row ∷ back)) row.1
is_there front back row =
    let P : List ℕ → Type 0 = λ numbers. Contains numbers row.1 in
    subst P (sym (split_numbers front back row)) (among (numbers_of front) (numbers_of back) row.1)

pub numbers_kept : (front back : List (ℕ × ℕ)) (row : ℕ × ℕ) (number : ℕ) → Contains (numbers_of (front ++ back)) number → Contains (numbers_of (front ++ row ∷ back)) number
numbers_kept front back row number there =
    let P : List ℕ → Type 0 = λ numbers. Contains numbers number in
    subst P (sym (split_numbers front back row))
    (without_kept (numbers_of front) (numbers_of back) row.1 number (subst P (left_numbers front back) there))

pub numbers_cases : (front back : List (ℕ × ℕ)) (row : ℕ × ℕ) (number : ℕ) → Contains (numbers_of (front ++ row ∷ back)) number
    → (row.1 ≡ number) ⊎ Contains (numbers_of (front ++ back)) number
numbers_cases front back row number there =
    let P : List ℕ → Type 0 = λ numbers. Contains numbers number in
    elim (without_cases (numbers_of front) (numbers_of back) row.1 number (subst P (split_numbers front back row) there)) as (λ _. (row.1 ≡ number) ⊎ P (numbers_of (front ++ back)))
    [ inl is ↦ inl is | inr p ↦ inr (subst P (sym (left_numbers front back)) p) ]

-- ---- one more, and one less

pub rises_lower : (lower low high : ℕ) (rows : List (ℕ × ℕ)) → lower ≤ low → Rises low rows high → Rises lower rows high
rises_lower lower low high [] less rises = omega arith
rises_lower lower low high (row ∷ rows) less rises = (rises.0, omega arith, rises.2)

pub rises_push : (low high : ℕ) (rows : List (ℕ × ℕ)) → Rises low rows high → Rises low (rows ++ (high + 1, high + 1) ∷ []) (high + 1)
rises_push low high [] rises = (refl, omega arith, omega arith)
rises_push low high (row ∷ rows) rises = (rises.0, rises.1, rises_push row.1 high rows rises.2)

pub same_at : (low high : ℕ) (front back : List (ℕ × ℕ)) (row : ℕ × ℕ) → Rises low (front ++ row ∷ back) high → row.0 ≡ row.1
same_at low high [] back row rises = rises.0
same_at low high (first ∷ front) back row rises = same_at first.1 high front back row rises.2

pub rises_without : (low high : ℕ) (front back : List (ℕ × ℕ)) (row : ℕ × ℕ) → Rises low (front ++ row ∷ back) high → Rises low (front ++ back) high
rises_without low high [] back row rises = rises_lower low row.1 high back (let less : low < row.1 = rises.1 in omega arith) rises.2
rises_without low high (first ∷ front) back row rises = (rises.0, rises.1, rises_without first.1 high front back row rises.2)

-- no number stands twice
pub apart : (low high number : ℕ) (front back : List (ℕ × ℕ)) (row : ℕ × ℕ) → Rises low (front ++ row ∷ back) high
    → Contains (numbers_of (front ++ back)) number → row.1 ≡ number → ⊥
apart low high number [] back row rises there is = let more = above row.1 high number back rises.2 there in omega arith
apart low high number (first ∷ front) back row rises there is =
    elim (at_front first.1 number (numbers_of (front ++ back)) there) as (λ _. ⊥) [
      | inl here ↦ let more = above first.1 high row.1 (front ++ row ∷ back) rises.2 (is_there front back row) in omega arith
      | inr later ↦ apart first.1 high number front back row rises.2 later is
    ]
