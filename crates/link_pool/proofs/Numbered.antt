-- Lists by number: what a map with numbers and a write make of them.
use Rattle.std.proofs.Common.{◌≡◌, ◌≢◌, ℕ, zero, suc, ◌<◌, List, [], ◌∷◌, length, map, get_or, set, slice_get, replicate, Some, refl, ap, arith}
use Rattle.link_pool.specs.Slots.{numbered}

module _ {A B : Type 0} where
  pub length_numbered : (f : ℕ → A → B) (xs : List A) → length (numbered f xs) ≡ length xs
  length_numbered f [] = refl
  length_numbered f (x ∷ xs) = ap suc (length_numbered (λ n. f (suc n)) xs)

  pub numbered_get : (f : ℕ → A → B) (xs : List A) (i : ℕ) (x : A) (d : B) → slice_get xs i ≡ Some x → get_or (numbered f xs) i d ≡ f i x
  numbered_get f [] i x d got = absurd (cc)
  numbered_get f (y ∷ xs) zero x d got = ap (f zero) (cc)
  numbered_get f (y ∷ xs) (suc i) x d got = numbered_get (λ n. f (suc n)) xs i x d got

  -- the list whose items are those of the map
  pub numbered_is : (f : ℕ → A → B) (xs : List A) (ys : List B) (d : B) → length ys ≡ length xs → ((i : ℕ) (x : A) → slice_get xs i ≡ Some x → f i x ≡ get_or ys i d) → numbered f xs ≡ ys
  numbered_is f [] [] d many each = refl
  numbered_is f [] (y ∷ ys) d many each = absurd (omega (arith, many))
  numbered_is f (x ∷ xs) [] d many each = absurd (omega (arith, many))
  numbered_is f (x ∷ xs) (y ∷ ys) d many each =
      rw (each zero x refl) (ap (λ zs. y ∷ zs) (numbered_is (λ n. f (suc n)) xs ys d (omega (arith, many)) (λ i z got. each (suc i) z got)))

module _ {A : Type 0} where
  pub set_same : (xs : List A) (i : ℕ) (x y : A) → slice_get xs i ≡ Some x → slice_get (set xs i y) i ≡ Some y
  set_same [] i x y got = absurd (cc)
  set_same (z ∷ xs) zero x y got = refl
  set_same (z ∷ xs) (suc i) x y got = set_same xs i x y got

  pub set_other : (xs : List A) (i j : ℕ) (y : A) → j ≢ i → slice_get (set xs i y) j ≡ slice_get xs j
  set_other [] i j y differs = refl
  set_other (x ∷ xs) zero zero y differs = absurd (differs refl)
  set_other (x ∷ xs) zero (suc j) y differs = refl
  set_other (x ∷ xs) (suc i) zero y differs = refl
  set_other (x ∷ xs) (suc i) (suc j) y differs = set_other xs i j y (λ e. differs (ap suc e))

  pub get_is : (xs : List A) (i : ℕ) (d : A) → i < length xs → (x : A) × (slice_get xs i ≡ Some x)
  get_is [] i d below = absurd (omega arith)
  get_is (x ∷ xs) zero d below = (x, refl)
  get_is (x ∷ xs) (suc i) d below = get_is xs i d (omega arith)

  pub get_from : (xs : List A) (i : ℕ) (x d : A) → slice_get xs i ≡ Some x → get_or xs i d ≡ x
  get_from [] i x d got = absurd (cc)
  get_from (y ∷ xs) zero x d got = cc
  get_from (y ∷ xs) (suc i) x d got = get_from xs i x d got

  pub mapped_get : {B : Type 0} (f : A → B) (xs : List A) (i : ℕ) (d : A) → get_or (map f xs) i (f d) ≡ f (get_or xs i d)
  mapped_get f [] i d = refl
  mapped_get f (x ∷ xs) zero d = refl
  mapped_get f (x ∷ xs) (suc i) d = mapped_get f xs i d

  -- an item of many that are the same
  pub repeated_get : (n i : ℕ) (x y : A) → slice_get (replicate n x) i ≡ Some y → y ≡ x
  repeated_get zero i x y got = absurd (cc)
  repeated_get (suc n) zero x y got = cc
  repeated_get (suc n) (suc i) x y got = repeated_get n i x y got
