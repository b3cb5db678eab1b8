-- A text that is cut at a byte.
use Rattle.std.specs.Prelude.{ℕ, ◌≡◌, ◌≢◌, ◌==◌, List, [], ◌∷◌, ◌++◌, Option, Some, None, option_map, if◌then◌else◌}
use Rattle.std.specs.List.{AllByRecursion}

-- none of the bytes is this one
abbrev pub Lacks : ℕ → List ℕ → Type 0
Lacks byte text = AllByRecursion (λ b. b ≢ byte) text

-- the text is these two with the byte between them, which stands there for the first time
abbrev pub IsCut : ℕ → List ℕ → List ℕ → List ℕ → Type 0
IsCut byte text front rest = Lacks byte front × (text ≡ front ++ byte ∷ rest)

-- what stands before the first such byte, and what stands behind it
abbrev pub cut_of : ℕ → List ℕ → Option (List ℕ × List ℕ)
cut_of byte [] = None
cut_of byte (b ∷ text) = if b == byte then Some ([], text) else option_map (λ parts. (b ∷ parts.0, parts.1)) (cut_of byte text)
