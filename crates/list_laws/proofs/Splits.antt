-- Lists that are put together and cut, and lists by a test.
use Rattle.std.proofs.Common.{◌≡◌, Bool, true, false, cond, List, [], ◌∷◌, ◌++◌, map, filter, refl, ap, ap₂, ◌∙◌}
use Rattle.std.specs.List.{AllByRecursion}

-- where two lists are put together and cut elsewhere, the cut is within the first one or past it
pub data CutAt {A : Type 0} (us vs xs ys : List A) : Type 0 where
  cut_within : (ws : List A) → us ++ ws ≡ xs → CutAt us vs xs ys
  cut_past : (ws : List A) → us ≡ xs ++ ws → ws ++ vs ≡ ys → CutAt us vs xs ys

cut_further : {A : Type 0} → (u x : A) (us vs xs ys : List A) → u ≡ x → CutAt us vs xs ys → CutAt (u ∷ us) vs (x ∷ xs) ys
cut_further u x us vs xs ys same (cut_within ws is) = cut_within ws (ap (λ l. u ∷ l) is ∙ ap (λ a. a ∷ xs) same)
cut_further u x us vs xs ys same (cut_past ws is further) = cut_past ws (ap (λ l. u ∷ l) is ∙ ap (λ a. a ∷ (xs ++ ws)) same) further

pub cut_at : {A : Type 0} → (us vs xs ys : List A) → us ++ vs ≡ xs ++ ys → CutAt us vs xs ys
cut_at [] vs xs ys e = cut_within xs refl
cut_at (u ∷ us) vs [] ys e = cut_past (u ∷ us) refl e
cut_at (u ∷ us) vs (x ∷ xs) ys e =
    let same : u ≡ x = cc in
    let rest : us ++ vs ≡ xs ++ ys = cc in cut_further u x us vs xs ys same (cut_at us vs xs ys rest)

-- ---- by a test

pub filter_mapped : {A B : Type 0} → (q : B → Bool) (f : A → B) (xs : List A) → filter q (map f xs) ≡ map f (filter (λ x. q (f x)) xs)
filter_mapped q f [] = refl
filter_mapped {A} {B} q f (x ∷ xs) = by_flag (q (f x)) x (filter q (map f xs)) (filter (λ y. q (f y)) xs) (filter_mapped q f xs)
  where
    by_flag : (b : Bool) (y : A) (us : List B) (vs : List A) → us ≡ map f vs → cond b (f y ∷ us) us ≡ map f (cond b (y ∷ vs) vs)
    by_flag true y us vs e = ap (λ l. f y ∷ l) e
    by_flag false y us vs e = e

pub filter_each : {A : Type 0} → (p q : A → Bool) (xs : List A) → AllByRecursion (λ x. p x ≡ q x) xs → filter p xs ≡ filter q xs
filter_each p q [] same = refl
filter_each p q (x ∷ xs) same =
    ap (λ b. cond b (x ∷ filter p xs) (filter p xs)) same.0 ∙ ap (λ l. cond (q x) (x ∷ l) l) (filter_each p q xs same.1)

pub filter_nothing : {A : Type 0} → (p : A → Bool) (xs : List A) → AllByRecursion (λ x. p x ≡ false) xs → filter p xs ≡ []
filter_nothing p [] none = refl
filter_nothing p (x ∷ xs) none = ap (λ b. cond b (x ∷ filter p xs) (filter p xs)) none.0 ∙ filter_nothing p xs none.1

-- a list whose elements of a kind are these and those is cut between them
pub record PartsOf {A : Type 0} (p : A → Bool) (zs xs ys : List A) : Type 0 where
  pub front : List A
  pub back : List A
  pub whole : front ++ back ≡ zs
  pub first : filter p front ≡ xs
  pub second : filter p back ≡ ys

part_first : {A : Type 0} → (p : A → Bool) (z : A) (zs xs ys : List A) → p z ≡ true → z ∷ filter p zs ≡ xs ++ ys
    → ((us : List A) → filter p zs ≡ us ++ ys → PartsOf p zs us ys) → PartsOf p (z ∷ zs) xs ys
part_first p z zs [] ys is e further = record {
  front = [];
  back = z ∷ zs;
  whole = refl;
  first = refl;
  second = ap (λ b. cond b (z ∷ filter p zs) (filter p zs)) is ∙ e;
}
part_first p z zs (x ∷ xs) ys is e further =
    let same : z ≡ x = cc in
    let rest : filter p zs ≡ xs ++ ys = cc in
    let more : PartsOf p zs xs ys = further xs rest in
    record {
      front = z ∷ more.front;
      back = more.back;
      whole = ap (λ l. z ∷ l) more.whole;
      first = ap (λ b. cond b (z ∷ filter p more.front) (filter p more.front)) is ∙ ap₂ (λ a l. a ∷ l) same more.first;
      second = more.second;
    }

part_over : {A : Type 0} → (p : A → Bool) (z : A) (zs xs ys : List A) → p z ≡ false → PartsOf p zs xs ys → PartsOf p (z ∷ zs) xs ys
part_over p z zs xs ys is more = record {
  front = z ∷ more.front;
  back = more.back;
  whole = ap (λ l. z ∷ l) more.whole;
  first = ap (λ b. cond b (z ∷ filter p more.front) (filter p more.front)) is ∙ more.first;
  second = more.second;
}

part_by : {A : Type 0} → (flag : Bool) (p : A → Bool) (z : A) (zs xs ys : List A) → p z ≡ flag → cond flag (z ∷ filter p zs) (filter p zs) ≡ xs ++ ys
    → ((us : List A) → filter p zs ≡ us ++ ys → PartsOf p zs us ys) → PartsOf p (z ∷ zs) xs ys
part_by true p z zs xs ys is e further = part_first p z zs xs ys is e further
part_by false p z zs xs ys is e further = part_over p z zs xs ys is (further xs e)

pub parts_of : {A : Type 0} → (p : A → Bool) (zs xs ys : List A) → filter p zs ≡ xs ++ ys → PartsOf p zs xs ys
parts_of p [] [] ys e = record { front = []; back = []; whole = refl; first = refl; second = e }
parts_of p [] (x ∷ xs) ys e = absurd cc
parts_of p (z ∷ zs) xs ys e = part_by (p z) p z zs xs ys refl e (λ us. parts_of p zs us ys)
