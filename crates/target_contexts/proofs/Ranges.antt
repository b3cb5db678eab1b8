-- Numbers in order, one more at the end.
use Rattle.std.proofs.Common.{◌≡◌, ℕ, zero, suc, ◌+◌, ◌-◌, Bool, cond, List, [], ◌∷◌, ◌++◌, filter, map, sym, ◌∙◌, ap, arith, append_assoc, append-nil}
use Rattle.std.specs.List.{flat_map, range_with_len}
use Rattle.std.proofs.lemmas.List.{map-append}
use Rattle.std.proofs.lemmas.List.Elements.{filter-append}

range_last : (a n j : ℕ) → a + n ≡ j → range_with_len a (suc n) ≡ range_with_len a n ++ j ∷ []
range_last a zero j e = let same : a ≡ j = omega arith in ap (λ k. k ∷ []) same
range_last a (suc n) j e = ap (λ l. a ∷ l) (range_last (a + 1) n j (omega arith))

pub range_more : (a n j : ℕ) → a + n ≡ j → range_with_len a (n + 1) ≡ range_with_len a n ++ j ∷ []
range_more a n j e = let on : n + 1 ≡ suc n = omega arith in ap (range_with_len a) on ∙ range_last a n j e

-- what is made of each number so far, and of one more
pub mapped_more : {A : Type 0} → (f : ℕ → A) (a n j : ℕ) (before out new : List A) (x : A) → a + n ≡ j → x ≡ f j → new ≡ out ++ x ∷ [] → out ≡ before ++ map f (range_with_len a n)
    → new ≡ before ++ map f (range_with_len a (n + 1))
mapped_more f a n j before out new x is made grown so_far =
    grown ∙ ap (λ y. out ++ y ∷ []) made ∙ ap (λ xs. xs ++ f j ∷ []) so_far
    ∙ append_assoc before (map f (range_with_len a n)) (f j ∷ [])
    ∙ ap (λ xs. before ++ xs) (sym (ap (map f) (range_more a n j is) ∙ map-append f (range_with_len a n) (j ∷ [])))

flat_last : {A : Type 0} → (f : ℕ → List A) (a n j : ℕ) → a + n ≡ j → flat_map f (range_with_len a (suc n)) ≡ flat_map f (range_with_len a n) ++ f j
flat_last f a zero j e =
    let same : a ≡ j = omega arith in ap (λ k. f k ++ []) same ∙ append-nil (f j)
flat_last f a (suc n) j e =
    ap (λ l. f a ++ l) (flat_last f (a + 1) n j (omega arith)) ∙ sym (append_assoc (f a) (flat_map f (range_with_len (a + 1) n)) (f j))

pub flat_more : {A : Type 0} → (f : ℕ → List A) (a n j : ℕ) (before out new : List A) → a + n ≡ j → new ≡ out ++ f j → out ≡ before ++ flat_map f (range_with_len a n)
    → new ≡ before ++ flat_map f (range_with_len a (n + 1))
flat_more f a n j before out new is grown so_far =
    let on : n + 1 ≡ suc n = omega arith in
    grown ∙ ap (λ xs. xs ++ f j) so_far ∙ append_assoc before (flat_map f (range_with_len a n)) (f j)
    ∙ ap (λ xs. before ++ xs) (sym (ap (λ m. flat_map f (range_with_len a m)) on ∙ flat_last f a n j is))

-- those that pass a test, and one more
pub filter_last : (p : ℕ → Bool) (a n j : ℕ) (b : Bool) → a + n ≡ j → p j ≡ b → filter p (range_with_len a (n + 1)) ≡ filter p (range_with_len a n) ++ cond b (j ∷ []) []
filter_last p a n j b is passes =
    ap (filter p) (range_more a n j is)
    ∙ filter-append p (range_with_len a n) (j ∷ [])
    ∙ ap (λ c. filter p (range_with_len a n) ++ cond c (j ∷ []) []) passes
