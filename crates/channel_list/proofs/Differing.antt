-- Lists whose elements have numbers that differ.
use Rattle.std.proofs.Common.{◌≡◌, ℕ, ◌==◌, Bool, false, ◌||◌, List, [], ◌∷◌, ◌++◌, map, refl, sym, ap, ◌∙◌, ne_eqb}
use Rattle.std.specs.List.{AllByRecursion, list_any}
use Rattle.std.proofs.lemmas.Bool.{eqb-false, or_parts, or_from}
use Rattle.std.proofs.lemmas.List.Folds.{list_any-append}
use Rattle.list_laws.proofs.Numbers.{other_number}
use Rattle.list_laws.proofs.Flags.{or_or_false}

abbrev pub has : {A : Type 0} → (A → ℕ) → ℕ → List A → Bool
has number k xs = list_any (λ x. number x == k) xs

abbrev pub Differ : {A : Type 0} → (A → ℕ) → List A → Type 0
Differ number [] = Unit {0}
Differ number (x ∷ xs) = (has number (number x) xs ≡ false) × Differ number xs

-- ---- What keeps the numbers

pub has_mapped : {A : Type 0} → (number : A → ℕ) (g : A → A) → ((x : A) → number (g x) ≡ number x) → (k : ℕ) (xs : List A) → has number k (map g xs) ≡ has number k xs
has_mapped number g keeps k [] = refl
has_mapped number g keeps k (x ∷ xs) = ap (λ n. (n == k) || has number k (map g xs)) (keeps x) ∙ ap (λ b. (number x == k) || b) (has_mapped number g keeps k xs)

pub differ_mapped : {A : Type 0} → (number : A → ℕ) (g : A → A) → ((x : A) → number (g x) ≡ number x) → (xs : List A) → Differ number xs → Differ number (map g xs)
differ_mapped number g keeps [] d = tt
differ_mapped number g keeps (x ∷ xs) d =
    (has_mapped number g keeps (number (g x)) xs ∙ ap (λ n. has number n xs) (keeps x) ∙ d.0, differ_mapped number g keeps xs d.1)

-- ---- One more

pub has_more : {A : Type 0} → (number : A → ℕ) (k : ℕ) (xs : List A) (y : A) → has number k (xs ++ y ∷ []) ≡ (has number k xs || (number y == k))
has_more number k xs y = list_any-append (λ x. number x == k) xs (y ∷ []) ∙ or_or_false (has number k xs) (number y == k)

pub differ_more : {A : Type 0} → (number : A → ℕ) (xs : List A) (y : A) → has number (number y) xs ≡ false → Differ number xs → Differ number (xs ++ y ∷ [])
differ_more number [] y none d = (refl, tt)
differ_more number (x ∷ xs) y none d =
    let parts = or_parts (number x == number y) (has number (number y) xs) none in (
      has_more number (number x) xs y ∙ or_from (has number (number x) xs) (number y == number x) d.0 (other_number (number x) (number y) parts.0),
      differ_more number xs y parts.1 d.1,
    )

-- ---- The others

-- where no other has the number of this one, one of them that has k isn't its namesake
pub others_apart : (k n : ℕ) (m : ℕ) → (m == n) ≡ false → n ≡ k → (m == k) ≡ false
others_apart k n m isnt same = ne_eqb m k (λ is. eqb-false m n isnt (is ∙ sym same))

pub all_mapped : {A : Type 0} → (P : A → Type 0) (g : A → A) (xs : List A) → AllByRecursion (λ x. P (g x)) xs → AllByRecursion P (map g xs)
all_mapped P g [] all = tt
all_mapped P g (x ∷ xs) all = (all.0, all_mapped P g xs all.1)

pub all_both : {A : Type 0} → (P Q : A → Type 0) (xs : List A) → AllByRecursion P xs → AllByRecursion Q xs → AllByRecursion (λ x. P x × Q x) xs
all_both P Q [] all also = tt
all_both P Q (x ∷ xs) all also = ((all.0, also.0), all_both P Q xs all.1 also.1)

-- those that haven't this number
pub all_apart : {A : Type 0} → (number : A → ℕ) (P Q : A → Type 0) (n : ℕ) → ((x : A) → (number x == n) ≡ false → P x → Q x) → (xs : List A) → has number n xs ≡ false → AllByRecursion P xs → AllByRecursion Q xs
all_apart number P Q n each [] none all = tt
all_apart number P Q n each (x ∷ xs) none all =
    let parts = or_parts (number x == n) (has number n xs) none in (each x parts.0 all.0, all_apart number P Q n each xs parts.1 all.1)
