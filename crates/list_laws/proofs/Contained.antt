-- What a list contains.
use Rattle.std.proofs.Common.{sym, List, [], arith, inl, inr, refl, suc, zero, ℕ, ⊎_elim, ◌++◌, ◌<◌, ◌∷◌, ◌≡◌, ◌⊎◌}
use Rattle.std.proofs.lemmas.List.Elements.{Contains-append_cases}
use Rattle.std.specs.List.{Contains}
use Rattle.std.specs.Prelude.{slice_index_or}

pub contains_at : {A : Type 0} → (xs ys : List A) (x : A) → Contains (xs ++ x ∷ ys) x
contains_at [] ys x = (0, omega arith, refl)
contains_at (y ∷ xs) ys x = let more = contains_at xs ys x in (suc more.0, omega arith, more.2)

single : {A : Type 0} → (k : ℕ) (x y : A) → k < 1 → slice_index_or (x ∷ []) k y ≡ y → x ≡ y
single zero x y within is = is
single (suc k) x y within is = absurd (omega arith)

pub contains_cases : {A : Type 0} → (x : A) (xs : List A) (y : A) → Contains (x ∷ xs) y → (x ≡ y) ⊎ Contains xs y
contains_cases x xs y there = ⊎_elim (λ one. inl (single one.0 x y one.1 one.2)) (λ rest. inr rest) (Contains-append_cases (x ∷ []) xs y there)

pub contains_first : {A : Type 0} → (x : A) (xs : List A) → Contains (x ∷ xs) x
contains_first x xs = (0, omega arith, refl)

pub none_in : {A : Type 0} → (y : A) → Contains [] y → ⊥
none_in y (k, within, is) = omega arith

pub in_one : {A : Type 0} → (x y : A) → Contains (x ∷ []) y → y ≡ x
in_one x y (zero, within, is) = sym is
in_one x y (suc k, within, is) = absurd (omega arith)
