-- Bytes that lie outside of the ones that are put over a memory stay.
use Rattle.std.proofs.Common.{◌≡◌, ℕ, ◌+◌, ◌-◌, ◌≤◌, ◌<◌, ◌⊎◌, true, false, true≢false, ◌&&◌, ◌||◌, List, [], ◌∷◌, ◌++◌, length, take, drop, zero, suc, inl, inr, refl, sym, ap, ◌∙◌, subst, arith}
use Rattle.std.specs.Prelude.{ℤ, pos, negsuc, nat_le, nat_lt, slice_get, unsigned_abs}
use Rattle.std.proofs.lemmas.Bool.{cases_Bool, leb-false, ltb-false, or_parts}
use Rattle.std.proofs.lemmas.List.{length-take-le}
use Rattle.data_services.specs.Bytes.{with_part}
use Rattle.knowledge.specs.Changes.{is_within}
use Rattle.knowledge.specs.Rows.{is_outside}

get_take : (n k : ℕ) (xs : List ℕ) → k < n → slice_get (take n xs) k ≡ slice_get xs k
get_take zero k xs low = absurd (omega (arith, low))
get_take (suc n) k [] low = refl
get_take (suc n) zero (x ∷ xs) low = refl
get_take (suc n) (suc k) (x ∷ xs) low = get_take n k xs (omega (arith, low))

get_left : (xs ys : List ℕ) (k : ℕ) → k < length xs → slice_get (xs ++ ys) k ≡ slice_get xs k
get_left [] ys k low = absurd (omega (arith, low))
get_left (x ∷ xs) ys zero low = refl
get_left (x ∷ xs) ys (suc k) low = get_left xs ys k (omega (arith, low))

get_right : (xs ys : List ℕ) (k : ℕ) → slice_get (xs ++ ys) (length xs + k) ≡ slice_get ys k
get_right [] ys k = ap (slice_get ys) (omega arith)
get_right (x ∷ xs) ys k =
    let e : length (x ∷ xs) + k ≡ suc (length xs + k) = omega arith in
    ap (slice_get (x ∷ (xs ++ ys))) e ∙ get_right xs ys k

pub get_drop : (n k : ℕ) (xs : List ℕ) → slice_get (drop n xs) k ≡ slice_get xs (n + k)
get_drop zero k xs = ap (slice_get xs) (omega arith)
get_drop (suc n) k [] = refl
get_drop (suc n) k (x ∷ xs) =
    let e : suc n + k ≡ suc (n + k) = omega arith in
    get_drop n k xs ∙ ap (slice_get (x ∷ xs)) (sym e)

below : (first : ℕ) (part memory : List ℕ) (place : ℕ) → first ≤ length memory → place < first
    → slice_get (with_part first part memory) place ≡ slice_get memory place
below first part memory place fits low =
    let count : length (take first memory) ≡ first = length-take-le first memory fits in
    get_left (take first memory) (part ++ drop (first + length part) memory) place (omega (arith, count, low))
    ∙ get_take first place memory low

above : (first : ℕ) (part memory : List ℕ) (k : ℕ) → first ≤ length memory
    → slice_get (with_part first part memory) (first + (length part + k)) ≡ slice_get memory (first + (length part + k))
above first part memory k fits =
    let rest : List ℕ = drop (first + length part) memory in
    let count : length (take first memory) ≡ first = length-take-le first memory fits in
    ap (λ n. slice_get (take first memory ++ (part ++ rest)) (n + (length part + k))) (sym count)
    ∙ (get_right (take first memory) (part ++ rest) (length part + k)
    ∙ (get_right part rest k
    ∙ (get_drop (first + length part) k memory ∙ ap (slice_get memory) (omega arith))))

either_side : (first size place : ℕ) → is_within first size place ≡ false → (place < first) ⊎ (first + size ≤ place)
either_side first size place out =
    elim (cases_Bool (nat_le first place)) [
      | inl e ↦ inr (ltb-false place (first + size) (sym (ap (λ b. b && nat_lt place (first + size)) e) ∙ out))
      | inr e ↦ inl (leb-false first place e)
    ]

pub kept_outside : (first : ℕ) (part memory : List ℕ) (place : ℕ) → first ≤ length memory → is_within first (length part) place ≡ false
    → slice_get (with_part first part memory) place ≡ slice_get memory place
kept_outside first part memory place fits out =
    elim (either_side first (length part) place out) [
      | inl low ↦ below first part memory place fits low
      | inr high ↦
          let k : ℕ = place - (first + length part) in
          let e : first + (length part + k) ≡ place = omega (arith, high) in
          subst (λ n. slice_get (with_part first part memory) n ≡ slice_get memory n) e (above first part memory k fits)
    ]

-- ---- a range that lies in memory

pub inside : (addr size : ℤ) → is_outside addr size ≡ false → unsigned_abs addr + unsigned_abs size ≤ 65536
inside (pos a) (pos n) is = ltb-false 65536 (a + n) (or_parts (nat_lt a 0 || nat_lt n 0) (nat_lt 65536 (a + n)) is).1
inside (pos a) (negsuc n) is = absurd (true≢false (or_parts (nat_lt a 0) true (or_parts (nat_lt a 0 || true) _ is).0).1)
inside (negsuc a) size is = absurd (true≢false is)
