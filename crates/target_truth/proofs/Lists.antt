-- What holds of all elements of lists holds of all where they are appended, mapped, picked, taken or left.
use Rattle.std.proofs.Common.{Bool, List, [], ◌∷◌, map, filter}
use Rattle.std.proofs.lemmas.Bool.{cond_both}
use Rattle.std.specs.List.{AllByRecursion}

-- the images of those that pass a test
pub all_picked : {A B : Type 0} → (P : B → Type 0) (Q : A → Type 0) (f : A → B) (test : A → Bool) (xs : List A) → ((x : A) → Q x → P (f x)) → AllByRecursion Q xs
    → AllByRecursion P (map f (filter test xs))
all_picked P Q f test [] each all = tt
all_picked P Q f test (x ∷ xs) each all =
    let rest = all_picked P Q f test xs each all.1 in
    cond_both (test x) (x ∷ filter test xs) (filter test xs) (λ picked. AllByRecursion P (map f picked)) (λ is. (each x all.0, rest)) (λ isnt. rest)
