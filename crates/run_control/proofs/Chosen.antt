-- A loop that keeps the numbers that pass a test.
use Rattle.std.proofs.Common.{◌≡◌, ℕ, Bool, true, false, cond, List, [], ◌∷◌, ◌++◌, filter, sym, ap, ◌∙◌, append_assoc}

-- one more passes it
pub one_kept : (p : ℕ → Bool) (x : ℕ) (rest left out new all : List ℕ) → left ≡ x ∷ rest → p x ≡ true → new ≡ out ++ x ∷ [] → out ++ filter p left ≡ all → new ++ filter p rest ≡ all
one_kept p x rest left out new all split passes grown before =
    ap (λ (ys : List ℕ). ys ++ filter p rest) grown
    ∙ append_assoc out (x ∷ []) (filter p rest)
    ∙ ap (λ (ys : List ℕ). out ++ ys) (sym (ap (filter p) split ∙ ap (λ b. cond b (x ∷ filter p rest) (filter p rest)) passes))
    ∙ before

-- one more fails it
pub one_passed : (p : ℕ → Bool) (x : ℕ) (rest left out new all : List ℕ) → left ≡ x ∷ rest → p x ≡ false → new ≡ out → out ++ filter p left ≡ all → new ++ filter p rest ≡ all
one_passed p x rest left out new all split fails same before =
    ap (λ (ys : List ℕ). ys ++ filter p rest) same
    ∙ ap (λ (ys : List ℕ). out ++ ys) (sym (ap (filter p) split ∙ ap (λ b. cond b (x ∷ filter p rest) (filter p rest)) fails))
    ∙ before
