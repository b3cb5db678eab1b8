-- The elements of lists: what holds of each, their places, and how many pass a test.
use Rattle.std.proofs.Common.{◌≡◌, ◌+◌, ◌≤◌, ◌<◌, zero, suc, Bool, true, false, cond, List, [], ◌∷◌, ◌++◌, length, map, filter, refl, ap, ap₂, sym, ◌∙◌, arith, length-append}
use Rattle.std.specs.Prelude.{All}
use Rattle.std.specs.List.{AllByRecursion, Contains}
use Rattle.std.proofs.lemmas.List.{append_assoc}
use Rattle.std.proofs.lemmas.List.Elements.{filter-append}

-- ---- what holds of each

all_cuts_from : {A : Type 0} → (P : A → Type 0) (whole before rest : List A) → whole ≡ before ++ rest → ((front back : List A) (x : A) → whole ≡ front ++ x ∷ back → P x)
    → AllByRecursion P rest
all_cuts_from P whole before [] split each = tt
all_cuts_from P whole before (x ∷ rest) split each =
    (each before rest x split, all_cuts_from P whole (before ++ x ∷ []) rest (split ∙ sym (append_assoc before (x ∷ []) rest)) each)

pub all_cuts : {A : Type 0} → (P : A → Type 0) (xs : List A) → ((front back : List A) (x : A) → xs ≡ front ++ x ∷ back → P x) → AllByRecursion P xs
all_cuts P xs each = all_cuts_from P xs [] xs refl each

pub all_kept : {A : Type 0} → (q : A → Bool) (xs : List A) → AllByRecursion (λ x. q x ≡ true) (filter q xs)
all_kept q [] = tt
all_kept {A} q (x ∷ xs) = by_flag (q x) refl (all_kept q xs)
  where
    by_flag : (flag : Bool) → q x ≡ flag → AllByRecursion (λ y. q y ≡ true) (filter q xs) → AllByRecursion (λ y. q y ≡ true) (cond flag (x ∷ filter q xs) (filter q xs))
    by_flag true is rest = (is, rest)
    by_flag false is rest = rest

pub all_mapped : {A B : Type 0} → (P : B → Type 0) (f : A → B) (xs : List A) → AllByRecursion (λ x. P (f x)) xs → AllByRecursion P (map f xs)
all_mapped P f [] all = tt
all_mapped P f (x ∷ xs) all = (all.0, all_mapped P f xs all.1)

pub all_index : {A : Type 0} → (P : A → Type 0) (xs : List A) → AllByRecursion P xs → All P xs
all_index P [] all k d within = absurd (omega arith)
all_index P (x ∷ xs) all zero d within = all.0
all_index P (x ∷ xs) all (suc k) d within = let less : k < length xs = omega arith in all_index P xs all.1 k d less

-- ---- places

-- where two lists are cut at the same length
pub record SameCut {A : Type 0} (xs us ys vs : List A) (x y : A) : Type 0 where
  pub first : xs ≡ ys
  pub middle : x ≡ y
  pub last : us ≡ vs

pub same_cut : {A : Type 0} → (xs us ys vs : List A) (x y : A) → xs ++ x ∷ us ≡ ys ++ y ∷ vs → length xs ≡ length ys → SameCut xs us ys vs x y
same_cut [] us [] vs x y e same = let head : x ≡ y = cc in let tail : us ≡ vs = cc in record { first = refl; middle = head; last = tail }
same_cut [] us (b ∷ ys) vs x y e same = absurd (omega arith)
same_cut (a ∷ xs) us [] vs x y e same = absurd (omega arith)
same_cut (a ∷ xs) us (b ∷ ys) vs x y e same =
    let head : a ≡ b = cc in
    let tail : xs ++ x ∷ us ≡ ys ++ y ∷ vs = cc in
    let shorter : length xs ≡ length ys = omega arith in
    let more : SameCut xs us ys vs x y = same_cut xs us ys vs x y tail shorter in
    record { first = ap₂ (λ z l. z ∷ l) head more.first; middle = more.middle; last = more.last }

pub record Cut {A : Type 0} (xs : List A) (x : A) : Type 0 where
  pub before : List A
  pub after : List A
  pub split : xs ≡ before ++ x ∷ after

pub contains_cut : {A : Type 0} → (xs : List A) (x : A) → Contains xs x → Cut xs x
contains_cut [] x (k, within, is) = absurd (omega arith)
contains_cut (y ∷ xs) x (zero, within, is) = record { before = []; after = xs; split = ap (λ z. z ∷ xs) is }
contains_cut (y ∷ xs) x (suc k, within, is) =
    let less : k < length xs = omega arith in
    let more : Cut xs x = contains_cut xs x (k, less, is) in
    record { before = y ∷ more.before; after = more.after; split = ap (λ l. y ∷ l) more.split }

-- an element of two lists is in one of them
pub data InOne {A : Type 0} (xs ys front back : List A) (x : A) : Type 0 where
  in_first : (before after : List A) → xs ≡ before ++ x ∷ after → InOne xs ys front back x
  in_second : (before : List A) → front ≡ xs ++ before → ys ≡ before ++ x ∷ back → InOne xs ys front back x

further : {A : Type 0} → (a b : A) (xs ys front back : List A) (x : A) → a ≡ b → InOne xs ys front back x → InOne (a ∷ xs) ys (b ∷ front) back x
further a b xs ys front back x same (in_first before after is) = in_first (a ∷ before) after (ap (λ l. a ∷ l) is)
further a b xs ys front back x same (in_second before is rest) = in_second before (ap₂ (λ c l. c ∷ l) (sym same) is) rest

pub in_one_of : {A : Type 0} → (xs ys front back : List A) (x : A) → xs ++ ys ≡ front ++ x ∷ back → InOne xs ys front back x
in_one_of [] ys front back x split = in_second front refl split
in_one_of (a ∷ xs) ys [] back x split = let head : a ≡ x = cc in in_first [] xs (ap (λ c. c ∷ xs) head)
in_one_of (a ∷ xs) ys (b ∷ front) back x split =
    let head : a ≡ b = cc in
    let tail : xs ++ ys ≡ front ++ x ∷ back = cc in
    further a b xs ys front back x head (in_one_of xs ys front back x tail)

-- ---- lengths

pub mapped_length : {A B : Type 0} → (f : A → B) (xs : List A) → length (map f xs) ≡ length xs
mapped_length f [] = refl
mapped_length f (x ∷ xs) = let more : length (map f xs) ≡ length xs = mapped_length f xs in omega arith

pub length_front : {A : Type 0} → (xs ys zs : List A) → xs ++ ys ≡ zs → length xs ≤ length zs
length_front xs ys zs split = let long : length xs + length ys ≡ length zs = sym (length-append xs ys) ∙ ap length split in omega arith

pub filter_length : {A : Type 0} → (p : A → Bool) (xs ys zs : List A) → xs ++ ys ≡ zs → length (filter p xs) ≤ length (filter p zs)
filter_length p xs ys zs split = length_front (filter p xs) (filter p ys) (filter p zs) (sym (filter-append p xs ys) ∙ ap (filter p) split)
