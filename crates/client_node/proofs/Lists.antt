-- Laws of lists that grow at their end, and of what stands in them.
use Rattle.std.proofs.Common.{◌≡◌, ℕ, zero, suc, ◌+◌, ◌<◌, List, [], ◌∷◌, ◌++◌, length, refl, ap, sym, ◌∙◌, inl, inr, ◌⊎◌, Bool, true, false, ◌||◌, arith}
use Rattle.std.specs.Prelude.{Some, remove, slice_get}
use Rattle.std.specs.List.{Contains, flat_map, list_any, range_with_len}
use Rattle.std.proofs.lemmas.List.{append-nil}
use Rattle.std.proofs.lemmas.List.Concat.{flat_map-append}
use Rattle.std.proofs.lemmas.List.Elements.{Contains-append_cases, Contains-append_left, Contains-append_right}
use Rattle.std.proofs.lemmas.List.Folds.{list_any-append}
use Rattle.tcf_text.specs.Each.{Each}
use Rattle.list_laws.proofs.Lists.{nothing_there}

-- ---- each element, with those before it

-- where a list with one more element is split, the split is at that element or before it
split_last : {A : Type 0} → (xs before after : List A) (x y : A) → xs ++ x ∷ [] ≡ before ++ y ∷ after
    → ((before ≡ xs) × (y ≡ x)) ⊎ ((rest : List A) × (xs ≡ before ++ y ∷ rest))
split_last [] [] after x y e = inl (refl, cc)
split_last {A} [] (b ∷ before) after x y e =
    let none : List A = [] in
    let tail : none ≡ before ++ y ∷ after = cc in absurd (nothing_there before after y tail)
split_last (z ∷ xs) [] after x y e = let head : z ≡ y = cc in inr (xs, cc)
split_last {A} (z ∷ xs) (b ∷ before) after x y e =
    let tail : xs ++ x ∷ [] ≡ before ++ y ∷ after = cc in
    let head : z ≡ b = cc in
    elim (split_last xs before after x y tail) as (λ _. ((b ∷ before ≡ z ∷ xs) × (y ≡ x)) ⊎ ((rest : List A) × (z ∷ xs ≡ b ∷ before ++ y ∷ rest)))
    [ inl p ↦ inl (let same : before ≡ xs = p.0 in cc, p.1) | inr p ↦ inr (p.0, let same : xs ≡ before ++ y ∷ p.0 = p.1 in cc) ]

pub each_push : {A : Type 0} → (P : List A → A → Type 0) (xs : List A) (x : A) → Each P xs → P xs x → Each P (xs ++ x ∷ [])
each_push {A} P xs x all here before after y e =
    elim (split_last xs before after x y e) as (λ _. P before y)
    [ inl p ↦ rw (p.0, p.1) here | inr p ↦ all before p.0 y p.1 ]

pub each_nothing : {A : Type 0} → (P : List A → A → Type 0) → Each P []
each_nothing P before after y e = absurd (nothing_there before after y e)

-- ---- one more element

pub flat_push : {A B : Type 0} → (f : A → List B) (xs : List A) (x : A) → flat_map f (xs ++ x ∷ []) ≡ flat_map f xs ++ f x
flat_push f xs x = flat_map-append f xs (x ∷ []) ∙ ap (λ ys. flat_map f xs ++ ys) (append-nil (f x))

-- an element of which the word is nothing
pub flat_same : {A B : Type 0} → (f : A → List B) (xs : List A) (x : A) → f x ≡ [] → flat_map f (xs ++ x ∷ []) ≡ flat_map f xs
flat_same f xs x none = flat_push f xs x ∙ ap (λ ys. flat_map f xs ++ ys) none ∙ append-nil (flat_map f xs)

-- an element that fails a test
pub any_push : {A : Type 0} → (p : A → Bool) (xs : List A) (x : A) → p x ≡ false → list_any p (xs ++ x ∷ []) ≡ list_any p xs
any_push p xs x off = rw (list_any-append p xs (x ∷ []), off) (or_false (list_any p xs))
  where
    or_false : (b : Bool) → (b || false) ≡ b
    or_false true = refl
    or_false false = refl

pub range_push : (first count : ℕ) → range_with_len first count ++ (first + count) ∷ [] ≡ range_with_len first (count + 1)
range_push first zero = let e : first + 0 ≡ first = omega arith in ap (λ n. n ∷ []) e
range_push first (suc count) =
    let e : first + suc count ≡ (first + 1) + count = omega arith in
    let step : suc count + 1 ≡ suc (count + 1) = omega arith in
    ap (λ n. first ∷ (range_with_len (first + 1) count ++ n ∷ [])) e ∙ ap (λ ns. first ∷ ns) (range_push (first + 1) count) ∙ sym (ap (range_with_len first) step)

-- ---- what stands in a list

pub at_front : {A : Type 0} → (x y : A) (xs : List A) → Contains (x ∷ xs) y → (x ≡ y) ⊎ Contains xs y
at_front x y xs (zero, within, is) = inl is
at_front x y xs (suc k, within, is) = let less : k < length xs = omega arith in inr (k, less, is)

pub in_tail : {A : Type 0} → (x y : A) (xs : List A) → Contains xs y → Contains (x ∷ xs) y
in_tail x y xs h = Contains-append_right (x ∷ []) xs y h

-- all but one element
pub without_kept : {A : Type 0} → (front back : List A) (x y : A) → Contains (front ++ back) y → Contains (front ++ x ∷ back) y
without_kept front back x y h =
    elim (Contains-append_cases front back y h) as (λ _. Contains (front ++ x ∷ back) y)
    [ inl p ↦ Contains-append_left front (x ∷ back) y p | inr p ↦ Contains-append_right front (x ∷ back) y (in_tail x y back p) ]

pub without_cases : {A : Type 0} → (front back : List A) (x y : A) → Contains (front ++ x ∷ back) y → (x ≡ y) ⊎ Contains (front ++ back) y
without_cases front back x y h =
    elim (Contains-append_cases front (x ∷ back) y h) as (λ _. (x ≡ y) ⊎ Contains (front ++ back) y)
    [ inl p ↦ inr (Contains-append_left front back y p) | inr p ↦ behind (at_front x y back p) ]
  where
    behind : (x ≡ y) ⊎ Contains back y → (x ≡ y) ⊎ Contains (front ++ back) y
    behind (inl is) = inl is
    behind (inr p) = inr (Contains-append_right front back y p)

-- ---- the element at a place, and the list without it

pub record IsWithout {A : Type 0} (xs : List A) (place : ℕ) (x : A) : Type 0 where
  pub front : List A
  pub back : List A
  pub whole : xs ≡ front ++ x ∷ back
  pub left : remove xs place ≡ front ++ back

pub at_place : {A : Type 0} → (xs : List A) (place : ℕ) (x : A) → slice_get xs place ≡ Some x → IsWithout xs place x
at_place [] place x is = cc
at_place (y ∷ xs) zero x is = let same : y ≡ x = cc in record { front = []; back = xs; whole = ap (λ z. z ∷ xs) same; left = refl }
at_place (y ∷ xs) (suc place) x is =
    let rest = at_place xs place x is in
    record { front = y ∷ rest.front; back = rest.back; whole = ap (λ zs. y ∷ zs) rest.whole; left = ap (λ zs. y ∷ zs) rest.left }
