-- A list of which each element meets something that depends on those before it.
use Rattle.std.specs.Prelude.{◌≡◌, List, ◌∷◌, ◌++◌}

-- each element of a list, with the elements before it, is as P says
abbrev pub Each : {A : Type 0} → (List A → A → Type 0) → List A → Type 0
Each {A} P xs = (before after : List A) (x : A) → xs ≡ before ++ x ∷ after → P before x
