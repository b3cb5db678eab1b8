-- What is left of lists, and lists that are seen through a function.
use Rattle.std.proofs.Common.{◌≡◌, ◌≤◌, inl, inr, ⊎_elim, Bool, true, false, cond, List, [], ◌∷◌, ◌++◌, length, map, refl, sym, ap, ◌∙◌, arith}
use Rattle.std.specs.List.{filter}
use Rattle.list_laws.specs.Fronts.{IsSubsequenceOf}
use Rattle.chain_told.specs.TellsOn.{IsWithoutSome}

-- ---- One list after the other

pub no_more : {A : Type 0} → (xs : List A) (x : A) (ys : List A) → xs ++ x ∷ ys ≡ [] → ⊥
no_more [] x ys is = absurd cc
no_more (y ∷ xs) x ys is = absurd cc

-- ---- A list without some elements of a kind, seen through a function

pub without_left : {A B : Type 0} → (f : A → B) (kind : A → Bool) (xs ys : List A) → IsWithoutSome kind xs ys → IsSubsequenceOf (map f xs) (map f ys)
without_left f kind [] ys without = tt
without_left f kind (x ∷ xs) [] without = absurd without
without_left f kind (x ∷ xs) (y ∷ ys) without =
    ⊎_elim (λ both. inl (ap f both.0, without_left f kind xs ys both.1)) (λ other. inr (without_left f kind (x ∷ xs) ys other.1)) without

pub without_few : {A : Type 0} → (kind : A → Bool) (xs ys : List A) → IsWithoutSome kind xs ys → length xs ≤ length ys
without_few kind [] ys without = omega arith
without_few kind (x ∷ xs) [] without = absurd without
without_few kind (x ∷ xs) (y ∷ ys) without =
    ⊎_elim (λ both. let rest = without_few kind xs ys both.1 in omega arith) (λ other. let rest = without_few kind (x ∷ xs) ys other.1 in omega arith) without

-- those of another kind are the same
module _ {A B : Type 0} (f : A → B) (kind : A → Bool) (q : B → Bool) (other : (x : A) → kind x ≡ true → q (f x) ≡ false) where
  dropped : (y : A) (ys : List A) → kind y ≡ true → filter q (map f (y ∷ ys)) ≡ filter q (map f ys)
  dropped y ys is = ap (λ b. cond b (f y ∷ filter q (map f ys)) (filter q (map f ys))) (other y is)

  pub without_filter : (xs ys : List A) → IsWithoutSome kind xs ys → filter q (map f xs) ≡ filter q (map f ys)
  without_filter [] [] without = refl
  without_filter [] (y ∷ ys) without = without_filter [] ys without.1 ∙ sym (dropped y ys without.0)
  without_filter (x ∷ xs) [] without = absurd without
  without_filter (x ∷ xs) (y ∷ ys) without =
      ⊎_elim
      (λ both.
      ap (λ l. cond (q (f x)) (f x ∷ l) l) (without_filter xs ys both.1)
      ∙ ap (λ z. cond (q (f z)) (f z ∷ filter q (map f ys)) (filter q (map f ys))) both.0)
      (λ more. without_filter (x ∷ xs) ys more.1 ∙ sym (dropped y ys more.0))
      without

-- ---- A list whose images are split

pub record Split {A B : Type 0} (f : A → B) (xs : List A) (ys zs : List B) : Type 0 where
  pub front : List A
  pub back : List A
  pub whole : xs ≡ front ++ back
  pub first : map f front ≡ ys
  pub second : map f back ≡ zs

pub split_mapped : {A B : Type 0} → (f : A → B) (xs : List A) (ys zs : List B) → map f xs ≡ ys ++ zs → Split f xs ys zs
split_mapped f xs [] zs is = record { front = []; back = xs; whole = refl; first = refl; second = is }
split_mapped f [] (y ∷ ys) zs is = absurd cc
split_mapped f (x ∷ xs) (y ∷ ys) zs is =
    let here : f x ≡ y = cc in
    let rest : map f xs ≡ ys ++ zs = cc in
    let s : Split f xs ys zs = split_mapped f xs ys zs rest in
    record {
      front = x ∷ s.front;
      back = s.back;
      whole = ap (λ l. x ∷ l) s.whole;
      first = ap (λ b. b ∷ map f s.front) here ∙ ap (λ l. y ∷ l) s.first;
      second = s.second;
    }
