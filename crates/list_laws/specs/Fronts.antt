-- Fronts of lists, and what is left of a list.
use Rattle.std.specs.Prelude.{◌≡◌, ◌⊎◌, List, [], ◌∷◌, ◌++◌}

-- the first list is a front of the second one
abbrev pub IsFront : {A : Type 0} → List A → List A → Type 0
IsFront {A} front all = (rest : List A) × (all ≡ front ++ rest)

-- the first list is what is left of the second one where some of its elements are taken out
abbrev pub IsSubsequenceOf : {A : Type 0} → List A → List A → Type 0
IsSubsequenceOf [] ys = Unit {0}
IsSubsequenceOf (x ∷ xs) [] = ⊥
IsSubsequenceOf (x ∷ xs) (y ∷ ys) = ((x ≡ y) × IsSubsequenceOf xs ys) ⊎ IsSubsequenceOf (x ∷ xs) ys
