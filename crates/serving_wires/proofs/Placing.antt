-- Calls that each fit those before them, one part behind the other.
use Rattle.std.proofs.Common.{◌≡◌, List, [], ◌∷◌, ◌++◌, ◌⊎◌, inl, inr, refl, sym, ap, ◌∙◌, subst, append-nil, append_assoc}
use Rattle.tcf_wires.specs.declared.call.WireCall.{WireCall}
use Rattle.serving_wires.specs.Serving.{Each, EachBehind}

-- where a call of two parts stands: in the first, or in the second
abbrev IsParted : List WireCall → List WireCall → List WireCall → WireCall → List WireCall → Type 0
IsParted xs ys before call after =
    ((rest : List WireCall) × (xs ≡ before ++ call ∷ rest)) ⊎ ((more : List WireCall) × (before ≡ xs ++ more) × (ys ≡ more ++ call ∷ after))

parted_behind : (x : WireCall) (xs ys before after : List WireCall) (call : WireCall) → IsParted xs ys before call after → IsParted (x ∷ xs) ys (x ∷ before) call after
parted_behind x xs ys before after call (inl (rest, is)) = inl (rest, ap (λ (cs : List WireCall). x ∷ cs) is)
parted_behind x xs ys before after call (inr (more, first, second)) = inr (more, ap (λ (cs : List WireCall). x ∷ cs) first, second)

parted : (xs ys before after : List WireCall) (call : WireCall) → xs ++ ys ≡ before ++ call ∷ after → IsParted xs ys before call after
parted [] ys before after call is = inr (before, refl, is)
parted (x ∷ xs) ys [] after call is = let same : x ≡ call = cc in inl (xs, ap (λ (c : WireCall). c ∷ xs) same)
parted (x ∷ xs) ys (b ∷ before) after call is =
    let same : x ≡ b = cc in
    let later : xs ++ ys ≡ before ++ call ∷ after = cc in
    subst (λ (c : WireCall). IsParted (x ∷ xs) ys (c ∷ before) call after) same (parted_behind x xs ys before after call (parted xs ys before after call later))

pub each_none : (Fits : List WireCall → WireCall → Type 0) (first : List WireCall) → EachBehind Fits first []
each_none Fits first [] after call is = absurd cc
each_none Fits first (b ∷ before) after call is = absurd cc

pub each_one : (Fits : List WireCall → WireCall → Type 0) (first : List WireCall) (call : WireCall) → Fits first call → EachBehind Fits first (call ∷ [])
each_one Fits first call fits [] after other is =
    let same : call ≡ other = cc in
    subst (λ (cs : List WireCall). Fits cs other) (sym (append-nil first)) (subst (λ (c : WireCall). Fits first c) same fits)
each_one Fits first call fits (b ∷ before) after other is =
    let none : [] ≡ before ++ other ∷ after = cc in
    absurd (each_none (λ cs c. ⊥) first before after other none)

by_part : (Fits : List WireCall → WireCall → Type 0) (first xs ys : List WireCall) → EachBehind Fits first xs → EachBehind Fits (first ++ xs) ys
    → (before after : List WireCall) (call : WireCall) → IsParted xs ys before call after → Fits (first ++ before) call
by_part Fits first xs ys here there before after call (inl (rest, is)) = here before rest call is
by_part Fits first xs ys here there before after call (inr (more, is, later)) =
    subst (λ (cs : List WireCall). Fits cs call) (append_assoc first xs more ∙ ap (λ (cs : List WireCall). first ++ cs) (sym is)) (there more after call later)

-- those of one part and then of the other
pub each_both : (Fits : List WireCall → WireCall → Type 0) (first xs ys : List WireCall) → EachBehind Fits first xs → EachBehind Fits (first ++ xs) ys → EachBehind Fits first (xs ++ ys)
each_both Fits first xs ys here there before after call is = by_part Fits first xs ys here there before after call (parted xs ys before after call is)

-- behind those that are there
pub each_more : (Fits : List WireCall → WireCall → Type 0) (calls more : List WireCall) → Each Fits calls → EachBehind Fits calls more → Each Fits (calls ++ more)
each_more Fits calls more here there = each_both Fits [] calls more here there
