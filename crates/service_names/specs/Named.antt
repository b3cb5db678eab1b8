-- Names that are looked up in a list.
use Rattle.std.specs.Prelude.{ℕ, List, Option, bytes_eq, find}

-- the first of these that has the name
abbrev pub named : {A : Type 0} → (A → List ℕ) → List A → List ℕ → Option A
named name_of all name = find (λ a. bytes_eq name (name_of a)) all
