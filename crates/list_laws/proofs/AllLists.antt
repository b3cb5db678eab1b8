-- Facts of each item of a list.
use Rattle.std.proofs.Common.{Bool, List, [], arith, cond, drop, false, map, refl, subst, suc, take, true, zero, ℕ, ◌++◌, ◌∷◌, ◌≡◌}
use Rattle.std.proofs.lemmas.List.Elements.{Contains-append_left, Contains-append_right, Contains-push}
use Rattle.std.specs.List.{AllByRecursion, Contains, filter}
use Rattle.std.specs.Prelude.{cond}

pub all_append : {A : Type 0} → (P : A → Type 0) (xs ys : List A) → AllByRecursion P xs → AllByRecursion P ys → AllByRecursion P (xs ++ ys)
all_append P [] ys one two = two
all_append P (x ∷ xs) ys one two = (one.0, all_append P xs ys one.1 two)

pub all_at : {A : Type 0} → (P : A → Type 0) (xs ys : List A) (x : A) → AllByRecursion P (xs ++ x ∷ ys) → P x
all_at P [] ys x all = all.0
all_at P (y ∷ xs) ys x all = all_at P xs ys x all.1

pub all_both : {A : Type 0} → (P Q R : A → Type 0) (xs : List A) → ((x : A) → P x → Q x → R x) → AllByRecursion P xs → AllByRecursion Q xs → AllByRecursion R xs
all_both P Q R [] each one two = tt
all_both P Q R (x ∷ xs) each one two = (each x one.0 two.0, all_both P Q R xs each one.1 two.1)

pub all_contained : {A : Type 0} → (P : A → Type 0) (xs : List A) → ((x : A) → Contains xs x → P x) → AllByRecursion P xs
all_contained P [] each = tt
all_contained P (x ∷ xs) each = (each x (Contains-append_left (x ∷ []) xs x (Contains-push [] x)), all_contained P xs (λ y there. each y (Contains-append_right (x ∷ []) xs y there)))

pub all_contains : {A : Type 0} → (P : A → Type 0) (xs : List A) (x : A) → AllByRecursion P xs → Contains xs x → P x
all_contains P [] x each (k, within, is) = absurd (omega arith)
all_contains P (y ∷ xs) x each (zero, within, is) = subst P is each.0
all_contains P (y ∷ xs) x each (suc k, within, is) = all_contains P xs x each.1 (k, (omega arith), is)

pub all_drop : {A : Type 0} → (P : A → Type 0) (n : ℕ) (xs : List A) → AllByRecursion P xs → AllByRecursion P (drop n xs)
all_drop P zero xs all = all
all_drop P (suc n) [] all = tt
all_drop P (suc n) (x ∷ xs) all = all_drop P n xs all.1

pub all_filter : {A : Type 0} → (P : A → Type 0) (keep : A → Bool) (xs : List A) → AllByRecursion P xs → AllByRecursion P (filter keep xs)
all_filter P keep [] all = tt
all_filter P keep (x ∷ xs) all = by_flag (keep x) (all_filter P keep xs all.1)
  where
    by_flag : (flag : Bool) → AllByRecursion P (filter keep xs) → AllByRecursion P (cond flag (x ∷ filter keep xs) (filter keep xs))
    by_flag true rest = (all.0, rest)
    by_flag false rest = rest

pub all_if : {A : Type 0} → (P : A → Type 0) (test : Bool) (xs : List A) → (test ≡ true → AllByRecursion P xs) → AllByRecursion P (cond test xs [])
all_if P true xs all = all refl
all_if P false xs all = tt

pub all_left : {A : Type 0} → (P : A → Type 0) (xs ys : List A) → AllByRecursion P (xs ++ ys) → AllByRecursion P xs
all_left P [] ys all = tt
all_left P (x ∷ xs) ys all = (all.0, all_left P xs ys all.1)

pub all_map : {A B : Type 0} → (P : B → Type 0) (f : A → B) (xs : List A) → ((x : A) → P (f x)) → AllByRecursion P (map f xs)
all_map P f [] each = tt
all_map P f (x ∷ xs) each = (each x, all_map P f xs each)

pub all_mapped : {A B : Type 0} → (P : B → Type 0) (f : A → B) (xs : List A) → AllByRecursion P (map f xs) → AllByRecursion (λ x. P (f x)) xs
all_mapped P f [] all = tt
all_mapped P f (x ∷ xs) all = (all.0, all_mapped P f xs all.1)

pub all_push : {A : Type 0} → (P : A → Type 0) (xs : List A) (y : A) → AllByRecursion P xs → P y → AllByRecursion P (xs ++ y ∷ [])
all_push P [] y all one = (one, tt)
all_push P (x ∷ xs) y all one = (all.0, all_push P xs y all.1 one)

pub all_right : {A : Type 0} → (P : A → Type 0) (xs ys : List A) → AllByRecursion P (xs ++ ys) → AllByRecursion P ys
all_right P [] ys all = all
all_right P (x ∷ xs) ys all = all_right P xs ys all.1

pub all_take : {A : Type 0} → (P : A → Type 0) (n : ℕ) (xs : List A) → AllByRecursion P xs → AllByRecursion P (take n xs)
all_take P zero xs all = tt
all_take P (suc n) [] all = tt
all_take P (suc n) (x ∷ xs) all = (all.0, all_take P n xs all.1)

pub all_then : {A : Type 0} → (P Q : A → Type 0) → ((x : A) → P x → Q x) → (xs : List A) → AllByRecursion P xs → AllByRecursion Q xs
all_then P Q each [] all = tt
all_then P Q each (x ∷ xs) all = (each x all.0, all_then P Q each xs all.1)

pub all_weaker : {A : Type 0} → (P Q : A → Type 0) (xs : List A) → ((x : A) → P x → Q x) → AllByRecursion P xs → AllByRecursion Q xs
all_weaker P Q [] then all = tt
all_weaker P Q (x ∷ xs) then all = (then x all.0, all_weaker P Q xs then all.1)

pub all_map_then : {A B : Type 0} → (P : B → Type 0) (Q : A → Type 0) (f : A → B) (xs : List A) → ((x : A) → Q x → P (f x)) → AllByRecursion Q xs → AllByRecursion P (map f xs)
all_map_then P Q f [] each all = tt
all_map_then P Q f (x ∷ xs) each all = (each x all.0, all_map_then P Q f xs each all.1)

pub all_each : {A : Type 0} → (P : A → Type 0) (xs : List A) → ((x : A) → P x) → AllByRecursion P xs
all_each P [] each = tt
all_each P (x ∷ xs) each = (each x, all_each P xs each)

pub all_test : {A : Type 0} → (P : A → Type 0) (b : Bool) (xs ys : List A) → (b ≡ true → AllByRecursion P xs) → (b ≡ false → AllByRecursion P ys) → AllByRecursion P (cond b xs ys)
all_test P true xs ys first second = first refl
all_test P false xs ys first second = second refl
