-- Lists.
use Rattle.std.proofs.Common.{List, None, Option, Some, [], ap, arith, bytes_eq, drop, eqb-true, length, length-drop, length-take, map, refl, suc, take, true, zero, ℕ, ◌++◌, ◌+◌, ◌-◌, ◌<◌, ◌==◌, ◌∷◌, ◌≡◌, ◌≤◌}
use Rattle.std.proofs.lemmas.List.{take-append-drop}
use Rattle.std.proofs.lemmas.Slice.Eq.{bytes_eq-Decides}
use Rattle.std.specs.List.{last_or}
use Rattle.std.specs.Prelude.{bytes_eq, slice_get, slice_index_or, slice_set}

pub cons_parts : {A : Type 0} (x y : A) (xs ys : List A) → x ∷ xs ≡ y ∷ ys → (x ≡ y) × (xs ≡ ys)
cons_parts x y xs ys e = (cc, cc)

pub empty_by : (xs : List ℕ) → (length xs == 0) ≡ true → xs ≡ []
empty_by [] is = refl
empty_by (x ∷ xs) is = absurd (omega (arith, eqb-true (length (x ∷ xs)) 0 is))

pub equal_by : (a b : List ℕ) → bytes_eq a b ≡ true → a ≡ b
equal_by a b e = (bytes_eq-Decides a b).0 e

pub equal_bytes : (xs ys : List ℕ) → xs ≡ ys → bytes_eq xs ys ≡ true
equal_bytes xs ys same = (bytes_eq-Decides xs ys).1 same

pub equal_itself : (id : List ℕ) → bytes_eq id id ≡ true
equal_itself id = (bytes_eq-Decides id id).1 refl

pub get_at : {A : Type 0} → (xs : List A) (place : ℕ) (x : A) → slice_get xs place ≡ Some x → slice_index_or xs place x ≡ x
get_at [] place x is = refl
get_at (y ∷ xs) zero x is = cc
get_at (y ∷ xs) (suc place) x is = get_at xs place x is

pub get_set : {A : Type 0} → (i : ℕ) (xs : List A) (x y : A) → slice_get xs i ≡ Some y → slice_get (slice_set xs i x) i ≡ Some x
get_set i [] x y there = absurd cc
get_set zero (z ∷ xs) x y there = refl
get_set (suc i) (z ∷ xs) x y there = get_set i xs x y there

pub get_within : {A : Type 0} → (i : ℕ) (xs : List A) (x : A) → slice_get xs i ≡ Some x → i < length xs
get_within i [] x is = absurd cc
get_within zero (y ∷ xs) x is = omega arith
get_within (suc i) (y ∷ xs) x is = let rest = get_within i xs x is in omega (arith, rest)

pub last_push : {A : Type 0} → (o : Option A) (xs : List A) (x : A) → last_or o (xs ++ x ∷ []) ≡ Some x
last_push o [] x = refl
last_push o (y ∷ xs) x = last_push (Some y) xs x

pub map_map : {A B C : Type 0} → (f : B → C) (g : A → B) (xs : List A) → map f (map g xs) ≡ map (λ x. f (g x)) xs
map_map f g [] = refl
map_map f g (x ∷ xs) = ap (λ l. f (g x) ∷ l) (map_map f g xs)

pub nil_cons : {A : Type 0} (x : A) (xs : List A) → [] ≡ x ∷ xs → ⊥
nil_cons x xs e = cc

pub no_some : {A : Type 0} → (x : A) → ◌≡◌ {A = Option A} None (Some x) → ⊥
no_some x is = cc

pub none_before : {A : Type 0} → (xs ys : List A) → xs ++ ys ≡ [] → xs ≡ []
none_before [] ys e = refl
none_before (x ∷ xs) ys e = cc

pub none_behind : {A : Type 0} → (xs ys : List A) → xs ++ ys ≡ [] → ys ≡ []
none_behind [] ys is = is
none_behind (x ∷ xs) ys is = absurd cc

pub none_last : {A : Type 0} → (xs : List A) (x : A) → xs ++ x ∷ [] ≡ [] → ⊥
none_last [] x is = absurd cc
none_last (y ∷ xs) x is = absurd cc

pub none_mapped : {A B : Type 0} → (f : A → B) (xs : List A) → map f xs ≡ [] → xs ≡ []
none_mapped f [] is = refl
none_mapped f (x ∷ xs) is = absurd cc

pub nothing_there : {A : Type 0} → (before rest : List A) (s : A) → [] ≡ before ++ s ∷ rest → ⊥
nothing_there [] rest s e = cc
nothing_there (b ∷ before) rest s e = cc

pub same_some : (one other : List ℕ) → ◌≡◌ {A = Option (List ℕ)} (Some one) (Some other) → one ≡ other
same_some one other is = cc

pub set_length : {A : Type 0} → (i : ℕ) (xs : List A) (x : A) → length (slice_set xs i x) ≡ length xs
set_length i [] x = refl
set_length zero (y ∷ ys) x = refl
set_length (suc i) (y ∷ ys) x = ap suc (set_length i ys x)

pub set_same : {A : Type 0} → (i : ℕ) (xs : List A) (x : A) → slice_get xs i ≡ Some x → slice_set xs i x ≡ xs
set_same i [] x there = refl
set_same zero (z ∷ xs) x there = let same : x ≡ z = cc in ap (λ y. y ∷ xs) same
set_same (suc i) (z ∷ xs) x there = ap (λ zs. z ∷ zs) (set_same i xs x there)

pub take_drop : {A : Type 0} → (n : ℕ) (xs : List A) → take n xs ++ drop n xs ≡ xs
take_drop n xs = take-append-drop n xs

pub take_front : {A : Type 0} → (xs ys : List A) (n : ℕ) → n ≡ length xs → take n (xs ++ ys) ≡ xs
take_front [] ys n is = rw is refl
take_front (x ∷ xs) ys n is = rw is (ap (λ zs. x ∷ zs) (take_front xs ys (length xs) refl))

pub take_most : {A : Type 0} → (n : ℕ) (xs : List A) → length (take n xs) ≤ n
take_most zero xs = omega arith
take_most (suc n) [] = omega arith
take_most (suc n) (x ∷ xs) = let rest = take_most n xs in omega (arith, rest)

pub taken : (size first start : ℕ) (bytes : List ℕ) → start ≤ first → first + size ≤ start + length bytes → length (take size (drop (first - start) bytes)) ≡ size
taken size first start bytes begins ends = omega (arith, length-take size (drop (first - start) bytes), length-drop (first - start) bytes)
