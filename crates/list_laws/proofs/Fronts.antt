-- Fronts of lists, and what is left of them.
use Rattle.std.proofs.Common.{◌≡◌, ◌≤◌, ℕ, ◌+◌, inl, inr, ⊎_elim, Bool, List, [], ◌∷◌, ◌++◌, length, map, take, drop, refl, sym, subst, ap, ap₂, ◌∙◌, arith, append_assoc, append-nil, length-append}
use Rattle.std.specs.List.{AllByRecursion, filter, flat_map}
use Rattle.std.proofs.lemmas.List.{map-append}
use Rattle.std.proofs.lemmas.List.Concat.{flat_map-append}
use Rattle.std.proofs.lemmas.List.Elements.{filter-append}
use Rattle.list_laws.specs.Fronts.{IsFront, IsSubsequenceOf}
use Rattle.list_laws.proofs.Lists.{take_drop}

-- ---- as lists go

pub front_all : {A : Type 0} → (xs : List A) → IsFront xs xs
front_all xs = ([], sym (append-nil xs))

pub front_first : {A : Type 0} → (x y : A) (xs ys : List A) → IsFront (x ∷ xs) (y ∷ ys) → x ≡ y
front_first x y xs ys p = let whole : y ∷ ys ≡ x ∷ (xs ++ p.0) = p.1 in cc

pub front_rest : {A : Type 0} → (x y : A) (xs ys : List A) → IsFront (x ∷ xs) (y ∷ ys) → IsFront xs ys
front_rest x y xs ys p =
    let whole : y ∷ ys ≡ x ∷ (xs ++ p.0) = p.1 in
    let tail : ys ≡ xs ++ p.0 = cc in (p.0, tail)

pub no_front : {A : Type 0} → (x : A) (xs : List A) → IsFront (x ∷ xs) [] → ⊥
no_front {A} x xs p =
    let none : List A = [] in
    let whole : none ≡ x ∷ (xs ++ p.0) = p.1 in cc

pub front_cons : {A : Type 0} → (x y : A) (xs ys : List A) → x ≡ y → IsFront xs ys → IsFront (x ∷ xs) (y ∷ ys)
front_cons x y xs ys same p = (p.0, ap₂ (λ a l. a ∷ l) (sym same) p.1)

pub front_same : {A : Type 0} → (front all next : List A) → all ≡ next → IsFront front all → IsFront front next
front_same front all next same p = (p.0, sym same ∙ p.1)

pub front_more : {A : Type 0} → (front all more : List A) → IsFront front all → IsFront front (all ++ more)
front_more front all more p = (p.0 ++ more, ap (λ xs. xs ++ more) p.1 ∙ append_assoc front p.0 more)

pub front_then : {A : Type 0} → (xs ys zs : List A) → IsFront xs ys → IsFront ys zs → IsFront xs zs
front_then xs ys zs p q = (p.0 ++ q.0, q.1 ∙ ap (λ l. l ++ q.0) p.1 ∙ append_assoc xs p.0 q.0)

pub front_map : {A B : Type 0} → (f : A → B) (xs ys : List A) → IsFront xs ys → IsFront (map f xs) (map f ys)
front_map f xs ys p = (map f p.0, ap (map f) p.1 ∙ map-append f xs p.0)

pub front_flat : {A B : Type 0} → (f : A → List B) (xs ys : List A) → IsFront xs ys → IsFront (flat_map f xs) (flat_map f ys)
front_flat f xs ys p = (flat_map f p.0, ap (flat_map f) p.1 ∙ flat_map-append f xs p.0)

pub front_none : {A : Type 0} → (xs : List A) → IsFront xs [] → xs ≡ []
front_none [] p = refl
front_none (x ∷ xs) p = let whole : [] ≡ x ∷ (xs ++ p.0) = p.1 in absurd cc

pub front_length : {A : Type 0} → (xs ys : List A) → IsFront xs ys → length xs ≤ length ys
front_length xs ys p = let is : length ys ≡ length xs + length p.0 = ap length p.1 ∙ length-append xs p.0 in omega arith

pub front_each : {A : Type 0} → (P : A → Type 0) (xs ys : List A) → IsFront xs ys → AllByRecursion P ys → AllByRecursion P xs
front_each P xs ys p each = by_front xs (subst (AllByRecursion P) p.1 each)
  where
    by_front : (front : List _) → AllByRecursion P (front ++ p.0) → AllByRecursion P front
    by_front [] each = tt
    by_front (x ∷ front) each = (each.0, by_front front each.1)

pub front_take : {A : Type 0} → (n : ℕ) (xs : List A) → IsFront (take n xs) xs
front_take n xs = (drop n xs, sym (take_drop n xs))

pub front_filter : {A : Type 0} → (q : A → Bool) (xs ys : List A) → IsFront xs ys → IsFront (filter q xs) (filter q ys)
front_filter q xs ys p = (filter q p.0, ap (filter q) p.1 ∙ filter-append q xs p.0)

pub front_behind : {A : Type 0} → (first xs ys : List A) → IsFront xs ys → IsFront (first ++ xs) (first ++ ys)
front_behind first xs ys p = (p.0, ap (λ l. first ++ l) p.1 ∙ sym (append_assoc first xs p.0))

-- a front of mapped ones is mapped from a front
pub record IsMapped {A B : Type 0} (f : A → B) (xs : List A) (zs : List B) : Type 0 where
  pub origin : List A
  pub front : IsFront origin xs
  pub are : zs ≡ map f origin

pub front_mapped : {A B : Type 0} → (f : A → B) (xs : List A) (zs : List B) → IsFront zs (map f xs) → IsMapped f xs zs
front_mapped f xs [] p = record { origin = []; front = (xs, refl); are = refl }
front_mapped f [] (z ∷ zs) p = let whole : [] ≡ z ∷ (zs ++ p.0) = p.1 in absurd cc
front_mapped f (x ∷ xs) (z ∷ zs) p =
    let whole : f x ∷ map f xs ≡ z ∷ (zs ++ p.0) = p.1 in
    let first : f x ≡ z = cc in
    let tails : map f xs ≡ zs ++ p.0 = cc in
    let rest = front_mapped f xs zs (p.0, tails) in
    record { origin = x ∷ rest.origin; front = (rest.front.0, ap (λ l. x ∷ l) rest.front.1); are = ap (λ y. y ∷ zs) (sym first) ∙ ap (λ l. f x ∷ l) rest.are }

-- a front that is mapped to the same is the whole
none_more : {A B : Type 0} → (f : A → B) (front more : List A) → map f front ≡ map f (front ++ more) → more ≡ []
none_more f [] [] same = refl
none_more f [] (x ∷ more) same = absurd cc
none_more f (x ∷ front) more same =
    let whole : f x ∷ map f front ≡ f x ∷ map f (front ++ more) = same in
    let tails : map f front ≡ map f (front ++ more) = cc in
    none_more f front more tails

pub front_whole : {A B : Type 0} → (f : A → B) (front all : List A) → IsFront front all → map f front ≡ map f all → front ≡ all
front_whole f front all p same =
    let none : p.0 ≡ [] = none_more f front p.0 (same ∙ ap (map f) p.1) in
    sym (p.1 ∙ ap (λ l. front ++ l) none ∙ append-nil front)

-- ---- what is left of a list

pub front_subsequence : {A : Type 0} → (xs ys : List A) → IsFront xs ys → IsSubsequenceOf xs ys
front_subsequence [] ys p = tt
front_subsequence (x ∷ xs) [] p = absurd (no_front x xs p)
front_subsequence (x ∷ xs) (y ∷ ys) p = inl (front_first x y xs ys p, front_subsequence xs ys (front_rest x y xs ys p))

-- what is left of a list is left of it behind others too
pub behind_subsequence : {A : Type 0} → (xs ys zs : List A) → IsSubsequenceOf xs ys → IsSubsequenceOf xs (zs ++ ys)
behind_subsequence [] ys zs sub = tt
behind_subsequence (x ∷ xs) ys [] sub = sub
behind_subsequence (x ∷ xs) ys (z ∷ zs) sub = inr (behind_subsequence (x ∷ xs) ys zs sub)

-- a front of what is left, and what is left of a front
pub front_left : {A : Type 0} → (xs ys zs : List A) → IsFront xs ys → IsSubsequenceOf ys zs → IsSubsequenceOf xs zs
front_left [] ys zs p left = tt
front_left (x ∷ xs) [] zs p left = let whole : [] ≡ x ∷ (xs ++ p.0) = p.1 in absurd cc
front_left (x ∷ xs) (y ∷ ys) [] p left = absurd left
front_left (x ∷ xs) (y ∷ ys) (z ∷ zs) p left =
    let whole : y ∷ ys ≡ x ∷ (xs ++ p.0) = p.1 in
    let one : x ≡ y = cc in
    let tails : ys ≡ xs ++ p.0 = cc in
    ⊎_elim (λ both. inl (one ∙ both.0, front_left xs ys zs (p.0, tails) both.1)) (λ other. inr (front_left (x ∷ xs) (y ∷ ys) zs p other)) left

pub left_front : {A : Type 0} → (xs ys zs : List A) → IsSubsequenceOf xs ys → IsFront ys zs → IsSubsequenceOf xs zs
left_front [] ys zs left p = tt
left_front (x ∷ xs) [] zs left p = absurd left
left_front (x ∷ xs) (y ∷ ys) [] left p = let whole : [] ≡ y ∷ (ys ++ p.0) = p.1 in absurd cc
left_front (x ∷ xs) (y ∷ ys) (z ∷ zs) left p =
    let whole : z ∷ zs ≡ y ∷ (ys ++ p.0) = p.1 in
    let one : y ≡ z = cc in
    let tails : zs ≡ ys ++ p.0 = cc in
    ⊎_elim (λ both. inl (both.0 ∙ one, left_front xs ys zs both.1 (p.0, tails))) (λ other. inr (left_front (x ∷ xs) ys zs other (p.0, tails))) left
