-- The parts of a body (TCF protocol: each argument is followed by a zero byte).
use Rattle.std.specs.Prelude.{ℕ, ◌≡◌, ◌≢◌, ◌-◌, ◌==◌, List, [], ◌∷◌, ◌++◌, length, slice_get, IsSomeAnd, if◌then◌else◌}
use Rattle.std.specs.List.{AllByRecursion, onto_first}
use Rattle.tcf_values.specs.Cut.{Lacks}

-- the parts, each followed by one zero
abbrev pub joined : List (List ℕ) → List ℕ
joined [] = []
joined (part ∷ parts) = part ++ 0 ∷ joined parts

-- the body is the parts, none with a zero, each followed by one zero
abbrev pub Parts : List (List ℕ) → List ℕ → Type 0
Parts parts body = AllByRecursion (Lacks 0) parts × (body ≡ joined parts)

-- the body has a last byte, and it isn't zero
abbrev pub IsUnended : List ℕ → Type 0
IsUnended body = IsSomeAnd (slice_get body (length body - 1)) (λ last. last ≢ 0)

-- the parts of a body that is ended
abbrev pub parts_of : List ℕ → List (List ℕ)
parts_of [] = []
parts_of (b ∷ body) = if b == 0 then [] ∷ parts_of body else onto_first b (parts_of body)

-- the law: no body has two readings
abbrev pub OneReading : Type 0
OneReading = (body : List ℕ) (parts others : List (List ℕ)) → Parts parts body → Parts others body → parts ≡ others
