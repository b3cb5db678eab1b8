-- Bodies that grow part by part.
use Rattle.std.proofs.Common.{◌≡◌, ℕ, List, [], ◌∷◌, ◌++◌, refl, ◌∙◌, ap, append_assoc}
use Rattle.json_args.specs.Parts.{joined}

-- a part and its zero, and what follows
pub part_then : (old part rest : List ℕ) → (old ++ (part ++ 0 ∷ [])) ++ rest ≡ old ++ (part ++ 0 ∷ rest)
part_then old part rest = append_assoc old (part ++ 0 ∷ []) rest ∙ ap (λ t. old ++ t) (append_assoc part (0 ∷ []) rest)

joined_more : (parts : List (List ℕ)) (part : List ℕ) → joined parts ++ (part ++ 0 ∷ []) ≡ joined (parts ++ part ∷ [])
joined_more [] part = refl
joined_more (p ∷ ps) part = append_assoc p (0 ∷ joined ps) (part ++ 0 ∷ []) ∙ ap (λ t. p ++ 0 ∷ t) (joined_more ps part)

-- one more part behind joined parts
pub one_more : (old mid new part : List ℕ) (parts : List (List ℕ)) → mid ≡ old ++ joined parts → new ≡ mid ++ (part ++ 0 ∷ []) → new ≡ old ++ joined (parts ++ part ∷ [])
one_more old mid new part parts before after =
    after ∙ (ap (λ t. t ++ (part ++ 0 ∷ [])) before ∙ (append_assoc old (joined parts) (part ++ 0 ∷ []) ∙ ap (λ t. old ++ t) (joined_more parts part)))

-- the bytes behind what Memory.get has too
pub set_after_get : (old mid new id addr word size mode bytes : List ℕ) → mid ≡ old ++ joined (id ∷ addr ∷ word ∷ size ∷ mode ∷ [])
    → new ≡ mid ++ (bytes ++ 0 ∷ []) → new ≡ old ++ joined (id ∷ addr ∷ word ∷ size ∷ mode ∷ bytes ∷ [])
set_after_get old mid new id addr word size mode bytes before after = one_more old mid new bytes (id ∷ addr ∷ word ∷ size ∷ mode ∷ []) before after
