-- Lists that change at a place.
use Rattle.std.proofs.Common.{◌≡◌, ℕ, zero, suc, List, [], ◌∷◌, length, Some, None, refl, ap, subst, arith}
use Rattle.std.specs.Prelude.{slice_get, slice_set}
use Rattle.std.specs.List.{AllByRecursion}

pub get_none : {A : Type 0} → (i : ℕ) (xs : List A) (x : A) → slice_get xs i ≡ None → slice_get (slice_set xs i x) i ≡ None
get_none i [] x none = refl
get_none zero (z ∷ xs) x none = absurd cc
get_none (suc i) (z ∷ xs) x none = get_none i xs x none

pub set_twice : {A : Type 0} → (i : ℕ) (xs : List A) (x y : A) → slice_set (slice_set xs i x) i y ≡ slice_set xs i y
set_twice i [] x y = refl
set_twice zero (z ∷ xs) x y = refl
set_twice (suc i) (z ∷ xs) x y = ap (λ zs. z ∷ zs) (set_twice i xs x y)

pub get_beyond : {A : Type 0} → (i : ℕ) (xs : List A) → length xs ≡ 0 → slice_get xs i ≡ None
get_beyond i [] none = refl
get_beyond i (x ∷ xs) none = absurd (omega (arith, none))

-- ---- What holds of each

pub all_at : {A : Type 0} → (P : A → Type 0) (i : ℕ) (xs : List A) (x : A) → slice_get xs i ≡ Some x → AllByRecursion P xs → P x
all_at P i [] x there all = absurd cc
all_at P zero (z ∷ xs) x there all = let same : z ≡ x = cc in subst P same all.0
all_at P (suc i) (z ∷ xs) x there all = all_at P i xs x there all.1

pub all_set : {A : Type 0} → (P : A → Type 0) (i : ℕ) (xs : List A) (x : A) → P x → AllByRecursion P xs → AllByRecursion P (slice_set xs i x)
all_set P i [] x holds all = all
all_set P zero (z ∷ xs) x holds all = (holds, all.1)
all_set P (suc i) (z ∷ xs) x holds all = (all.0, all_set P i xs x holds all.1)
