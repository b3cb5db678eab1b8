-- Lists that are split at an element, and what they contain.
use Rattle.std.proofs.Common.{◌≡◌, ℕ, zero, suc, ◌+◌, ◌<◌, List, [], ◌∷◌, ◌++◌, length, take, Some, refl, sym, ap, ◌∙◌, arith, length-append}
use Rattle.std.specs.Prelude.{slice_get, slice_index_or}
use Rattle.std.specs.List.{Contains}
use Rattle.std.proofs.Math.Seq.{take-append_seam}

-- the element stands behind these, and before those
pub record StandsIn {A : Type 0} (xs : List A) (x : A) : Type 0 where
  pub front : List A
  pub back : List A
  pub are : xs ≡ front ++ x ∷ back

found_at : {A : Type 0} → (k : ℕ) (xs : List A) (x : A) → k < length xs → slice_index_or xs k x ≡ x → StandsIn xs x
found_at k [] x within is = absurd (omega arith)
found_at zero (y ∷ ys) x within is = record { front = []; back = ys; are = ap (λ z. z ∷ ys) is }
found_at (suc k) (y ∷ ys) x within is =
    let rest = found_at k ys x (omega arith) is in record { front = y ∷ rest.front; back = rest.back; are = ap (λ zs. y ∷ zs) rest.are }

pub found : {A : Type 0} → (xs : List A) (x : A) → Contains xs x → StandsIn xs x
found xs x there = found_at there.0 xs x there.1 there.2

single : {A : Type 0} → (k : ℕ) (x y : A) → k < 1 → slice_index_or (x ∷ []) k y ≡ y → x ≡ y
single zero x y within is = is
single (suc k) x y within is = absurd (omega arith)

-- ---- The element at a place

pub record IsSplit {A : Type 0} (n : ℕ) (xs : List A) : Type 0 where
  pub front : List A
  pub item : A
  pub back : List A
  pub are : xs ≡ front ++ item ∷ back
  pub place : length front ≡ n

pub split_at : {A : Type 0} → (n : ℕ) (xs : List A) → n < length xs → IsSplit n xs
split_at n [] within = absurd (omega arith)
split_at zero (x ∷ xs) within = record { front = []; item = x; back = xs; are = refl; place = refl }
split_at (suc n) (x ∷ xs) within =
    let rest = split_at n xs (omega arith) in
    record { front = x ∷ rest.front; item = rest.item; back = rest.back; are = ap (λ zs. x ∷ zs) rest.are; place = ap suc rest.place }

pub get_split : {A : Type 0} → (front : List A) (x : A) (back : List A) → slice_get (front ++ x ∷ back) (length front) ≡ Some x
get_split [] x back = refl
get_split (y ∷ front) x back = get_split front x back

pub same_front : {A : Type 0} → (xs ys xs' ys' : List A) → xs ++ ys ≡ xs' ++ ys' → length xs ≡ length xs' → xs ≡ xs'
same_front xs ys xs' ys' same long =
    sym (take-append_seam xs ys) ∙ ap (λ zs. take (length xs) zs) same ∙ ap (λ n. take n (xs' ++ ys')) long ∙ take-append_seam xs' ys'

-- ---- Two places of one list

-- both are one
pub record IsOne {A : Type 0} (xs : List A) (x : A) (xs' : List A) (x' : A) : Type 0 where
  pub front : xs ≡ xs'
  pub item : x ≡ x'

-- the first is before the second
pub record IsBefore {A : Type 0} (xs : List A) (x : A) (xs' : List A) : Type 0 where
  pub between : List A
  pub are : xs' ≡ xs ++ x ∷ between

pub data Places {A : Type 0} (xs : List A) (x : A) (xs' : List A) (x' : A) : Type 0 where
  one : IsOne xs x xs' x' → Places xs x xs' x'
  before : IsBefore xs x xs' → Places xs x xs' x'
  behind : IsBefore xs' x' xs → Places xs x xs' x'

pub places : {A : Type 0} → (xs : List A) (x : A) (ys xs' : List A) (x' : A) (ys' : List A) → xs ++ x ∷ ys ≡ xs' ++ x' ∷ ys' → Places xs x xs' x'
places [] x ys [] x' ys' same = one (record { front = refl; item = cc })
places [] x ys (a ∷ xs') x' ys' same =
    let whole : x ∷ ys ≡ a ∷ (xs' ++ x' ∷ ys') = same in
    let first : a ≡ x = cc in
    before (record { between = xs'; are = ap (λ z. z ∷ xs') first })
places (a ∷ xs) x ys [] x' ys' same =
    let whole : a ∷ (xs ++ x ∷ ys) ≡ x' ∷ ys' = same in
    let first : a ≡ x' = cc in
    behind (record { between = xs; are = ap (λ z. z ∷ xs) first })
places (a ∷ xs) x ys (b ∷ xs') x' ys' same =
    let whole : a ∷ (xs ++ x ∷ ys) ≡ b ∷ (xs' ++ x' ∷ ys') = same in
    let first : a ≡ b = cc in
    let tails : xs ++ x ∷ ys ≡ xs' ++ x' ∷ ys' = cc in
    by_places first (places xs x ys xs' x' ys' tails)
  where
    by_places : a ≡ b → Places xs x xs' x' → Places (a ∷ xs) x (b ∷ xs') x'
    by_places first (one o) = one (record { front = ap (λ z. z ∷ xs) first ∙ ap (λ zs. b ∷ zs) o.front; item = o.item })
    by_places first (before o) = before (record { between = o.between; are = ap (λ z. z ∷ xs') (sym first) ∙ ap (λ zs. a ∷ zs) o.are })
    by_places first (behind o) = behind (record { between = o.between; are = ap (λ z. z ∷ xs) first ∙ ap (λ zs. b ∷ zs) o.are })

-- a place of a list with one more element behind it is that element's, or one before it
pub data LastOr {A : Type 0} (ws : List A) (w : A) (xs : List A) (x : A) : Type 0 where
  last : IsOne ws w xs x → LastOr ws w xs x
  earlier : (ys : List A) → ws ≡ xs ++ x ∷ ys → LastOr ws w xs x

pub last_or : {A : Type 0} → (ws : List A) (w : A) (xs : List A) (x : A) (ys : List A) → ws ++ w ∷ [] ≡ xs ++ x ∷ ys → LastOr ws w xs x
last_or ws w xs x ys same = by_places (places ws w [] xs x ys same)
  where
    by_places : Places ws w xs x → LastOr ws w xs x
    by_places (one o) = last o
    by_places (before o) =
        let short : length (ws ++ w ∷ []) ≡ length ws + 1 = length-append ws (w ∷ []) in
        let long : length (xs ++ x ∷ ys) ≡ length xs + suc (length ys) = length-append xs (x ∷ ys) in
        let far : length xs ≡ length ws + suc (length o.between) = ap length o.are ∙ length-append ws (w ∷ o.between) in
        let both : length (ws ++ w ∷ []) ≡ length (xs ++ x ∷ ys) = ap length same in
        absurd (omega arith)
    by_places (behind o) = earlier o.between o.are
