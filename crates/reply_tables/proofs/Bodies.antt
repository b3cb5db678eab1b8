-- Data that grows part by part.
use Rattle.std.proofs.Common.{◌≡◌, ℕ, List, [], ◌∷◌, ◌++◌, ◌∙◌, ap, append_assoc}

-- a part and its zero, and what follows
pub part_then : (old part rest : List ℕ) → (old ++ (part ++ 0 ∷ [])) ++ rest ≡ old ++ (part ++ 0 ∷ rest)
part_then old part rest = append_assoc old (part ++ 0 ∷ []) rest ∙ ap (λ t. old ++ t) (append_assoc part (0 ∷ []) rest)
