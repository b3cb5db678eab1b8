-- One more element of a list is changed, where those before it are.
use Rattle.std.proofs.Common.{◌≡◌, ℕ, zero, suc, ◌+◌, ◌<◌, List, [], ◌∷◌, ◌++◌, length, map, take, drop, refl, ap, arith, get_or, slice_set, subst}

next_more : {A : Type 0} → (f : A → A) (xs : List A) (i : ℕ) (d : A) → i < length xs →
    take (suc i) (slice_set xs i (f (get_or xs i d))) ++ map f (drop (suc i) (slice_set xs i (f (get_or xs i d)))) ≡ take i xs ++ map f (drop i xs)
next_more f [] i d within = absurd (omega arith)
next_more f (x ∷ xs) zero d within = refl
next_more f (x ∷ xs) (suc i) d within =
    let less : i < length xs = omega arith in
    ap (λ ys. x ∷ ys) (next_more f xs i d less)

pub one_more : {A : Type 0} → (f : A → A) (xs : List A) (i : ℕ) (d : A) → i < length xs →
    take (i + 1) (slice_set xs i (f (get_or xs i d))) ++ map f (drop (i + 1) (slice_set xs i (f (get_or xs i d)))) ≡ take i xs ++ map f (drop i xs)
one_more {A} f xs i d within =
    let next : suc i ≡ i + 1 = omega arith in
    let changed : List A = slice_set xs i (f (get_or xs i d)) in
    subst (λ (n : ℕ). take n changed ++ map f (drop n changed) ≡ take i xs ++ map f (drop i xs)) next (next_more f xs i d within)
