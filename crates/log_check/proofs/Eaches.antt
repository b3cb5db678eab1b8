-- Lists of which each element meets something that depends on those before it.
use Rattle.std.proofs.Common.{◌≡◌, List, [], ◌∷◌, ◌++◌, refl, inl, inr, ◌⊎◌}
use Rattle.list_laws.proofs.Lists.{nothing_there}
use Rattle.tcf_text.specs.Each.{Each}

-- where a list with one more element is split, the split is at that element or before it
split_last : {A : Type 0} → (xs before after : List A) (x y : A) → xs ++ x ∷ [] ≡ before ++ y ∷ after
    → ((before ≡ xs) × (y ≡ x)) ⊎ ((rest : List A) × (xs ≡ before ++ y ∷ rest))
split_last [] [] after x y e = inl (refl, cc)
split_last {A} [] (b ∷ before) after x y e =
    let none : List A = [] in
    let tail : none ≡ before ++ y ∷ after = cc in absurd (nothing_there before after y tail)
split_last (z ∷ xs) [] after x y e = let head : z ≡ y = cc in inr (xs, cc)
split_last {A} (z ∷ xs) (b ∷ before) after x y e =
    let tail : xs ++ x ∷ [] ≡ before ++ y ∷ after = cc in
    let head : z ≡ b = cc in
    elim (split_last xs before after x y tail) as (λ _. ((b ∷ before ≡ z ∷ xs) × (y ≡ x)) ⊎ ((rest : List A) × (z ∷ xs ≡ b ∷ before ++ y ∷ rest)))
    [ inl p ↦ inl (let same : before ≡ xs = p.0 in cc, p.1) | inr p ↦ inr (p.0, let same : xs ≡ before ++ y ∷ p.0 = p.1 in cc) ]

pub each_push : {A : Type 0} → (P : List A → A → Type 0) (xs : List A) (x : A) → Each P xs → P xs x → Each P (xs ++ x ∷ [])
each_push {A} P xs x all here before after y e =
    elim (split_last xs before after x y e) as (λ _. P before y)
    [ inl p ↦ rw (p.0, p.1) here | inr p ↦ all before p.0 y p.1 ]

pub each_nothing : {A : Type 0} → (P : List A → A → Type 0) → Each P []
each_nothing P before after y e = absurd (nothing_there before after y e)
