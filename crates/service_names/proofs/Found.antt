-- What is found in a list by its name.
use Rattle.std.proofs.Common.{◌≡◌, ℕ, List, [], ◌∷◌, sym, ◌∙◌, subst, inl, inr}
use Rattle.std.specs.Prelude.{Option, Some, None, bytes_eq}
use Rattle.std.specs.List.{AllByRecursion}
use Rattle.std.proofs.lemmas.Bool.{cases_Bool, cond-true, cond-false}
use Rattle.std.proofs.lemmas.Slice.Eq.{bytes_eq-Decides}
use Rattle.service_names.specs.Named.{named}

pub none_is : {A : Type 0} (x : A) → ◌≡◌ {A = Option A} None (Some x) → ⊥
none_is x same = cc

pub some_is : {A : Type 0} (x y : A) → ◌≡◌ {A = Option A} (Some x) (Some y) → x ≡ y
some_is x y same = cc

-- what is found has the name
pub named_exact : {A : Type 0} (text : A → List ℕ) (all : List A) (name : List ℕ) (a : A) → named text all name ≡ Some a → name ≡ text a
named_exact text [] name a found = absurd (none_is a found)
named_exact text (b ∷ bs) name a found =
    elim (cases_Bool (bytes_eq name (text b))) [
      | inl e ↦ subst (λ x. name ≡ text x) (some_is b a (sym (cond-true _ _ _ e) ∙ found)) ((bytes_eq-Decides name (text b)).0 e)
      | inr e ↦ named_exact text bs name a (sym (cond-false _ _ _ e) ∙ found)
    ]

-- what is found is one of the list
pub named_one : {A : Type 0} (text : A → List ℕ) (all : List A) (name : List ℕ) (Is : A → Type 0) → AllByRecursion Is all → (a : A) → named text all name ≡ Some a → Is a
named_one text [] name Is each a found = absurd (none_is a found)
named_one text (b ∷ bs) name Is each a found =
    elim (cases_Bool (bytes_eq name (text b))) [
      | inl e ↦ subst Is (some_is b a (sym (cond-true _ _ _ e) ∙ found)) each.0
      | inr e ↦ named_one text bs name Is each.1 a (sym (cond-false _ _ _ e) ∙ found)
    ]
