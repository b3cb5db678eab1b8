-- Changes of one thread after another, in the order of their numbers.
use Rattle.std.proofs.Common.{◌≡◌, ℕ, zero, suc, ◌+◌, ◌≤◌, ◌<◌, ◌==◌, Bool, true, false, List, [], ◌∷◌, ◌++◌, map, Option, inl, inr, refl, sym, ap, ◌∙◌, arith}
use Rattle.std.specs.List.{AllByRecursion, list_any, range_with_len}
use Rattle.std.proofs.lemmas.Bool.{cases_Bool, eqb-false, eqb-true, or_from, or_left, or_right}
use Rattle.std.proofs.lemmas.List.{append_assoc}
use Rattle.std.proofs.lemmas.List.Folds.{list_any-append}
use Rattle.knowledge.specs.Changes.{Change, of_each}
use Rattle.list_laws.proofs.AllLists.{all_append}
use Rattle.target_truth.proofs.Origins.{list_after, list_append}

-- the changes of so many threads, from a number on
abbrev pub ranged : (ℕ → List Change) → ℕ → ℕ → List Change
ranged changes a zero = []
ranged changes a (suc count) = changes a ++ ranged changes (a + 1) count

pub ranged_is : {A : Type 0} (make : A → List Change) (item : ℕ → A) (changes : ℕ → List Change) (a count : ℕ)
    → ((n : ℕ) → a ≤ n → n < a + count → make (item n) ≡ changes n) → of_each make (map item (range_with_len a count)) ≡ ranged changes a count
ranged_is make item changes a zero same = refl
ranged_is make item changes a (suc count) same =
    ap (λ first. first ++ of_each make (map item (range_with_len (a + 1) count))) (same a (omega arith) (omega arith))
    ∙ ap (λ rest. changes a ++ rest) (ranged_is make item changes (a + 1) count (λ n low high. same n (omega (arith, low)) (omega (arith, high))))

pub each_append : {A : Type 0} (make : A → List Change) (some more : List A) → of_each make (some ++ more) ≡ of_each make some ++ of_each make more
each_append make [] more = refl
each_append make (item ∷ some) more =
    ap (λ rest. make item ++ rest) (each_append make some more) ∙ sym (append_assoc (make item) (of_each make some) (of_each make more))

-- ---- what is so of each of them

pub ranged_all : (P : Change → Type 0) (changes : ℕ → List Change) (a count : ℕ) → ((n : ℕ) → a ≤ n → n < a + count → AllByRecursion P (changes n))
    → AllByRecursion P (ranged changes a count)
ranged_all P changes a zero each = tt
ranged_all P changes a (suc count) each =
    all_append P (changes a) (ranged changes (a + 1) count) (each a (omega arith) (omega arith))
    (ranged_all P changes (a + 1) count (λ n low high. each n (omega (arith, low)) (omega (arith, high))))

-- none of them passes a test
abbrev pub Fails : (Change → Bool) → Change → Type 0
Fails test change = test change ≡ false

pub none_passes : (test : Change → Bool) (changes : List Change) → AllByRecursion (Fails test) changes → list_any test changes ≡ false
none_passes test [] fails = refl
none_passes test (change ∷ changes) fails = or_from (test change) (list_any test changes) fails.0 (none_passes test changes fails.1)

-- ---- one of them passes a test

pub any_left : (test : Change → Bool) (some more : List Change) → list_any test some ≡ true → list_any test (some ++ more) ≡ true
any_left test some more is = list_any-append test some more ∙ or_left (list_any test some) (list_any test more) is

pub any_right : (test : Change → Bool) (some more : List Change) → list_any test more ≡ true → list_any test (some ++ more) ≡ true
any_right test some more is = list_any-append test some more ∙ or_right (list_any test some) (list_any test more) is

pub ranged_any : (test : Change → Bool) (changes : ℕ → List Change) (a count n : ℕ) → a ≤ n → n < a + count → list_any test (changes n) ≡ true
    → list_any test (ranged changes a count) ≡ true
ranged_any test changes a zero n low high is = absurd (omega (arith, low, high))
ranged_any test changes a (suc count) n low high is =
    elim (cases_Bool (a == n)) [
      | inl same ↦
          any_left test (changes a) (ranged changes (a + 1) count) (ap (λ k. list_any test (changes k)) (eqb-true a n same) ∙ is)
      | inr other ↦
          let differ : a ≡ n → ⊥ = eqb-false a n other in
          let above : a + 1 ≤ n = omega (arith, low, differ) in
          any_right test (changes a) (ranged changes (a + 1) count) (ranged_any test changes (a + 1) count n above (omega (arith, high)) is)
    ]

-- ---- they leave a list

pub ranged_quiet : (q : ℕ) (changes : ℕ → List Change) (a count : ℕ) (list : Option (List (List ℕ)))
    → ((n : ℕ) (known : Option (List (List ℕ))) → list_after q (changes n) known ≡ known) → list_after q (ranged changes a count) list ≡ list
ranged_quiet q changes a zero list quiet = refl
ranged_quiet q changes a (suc count) list quiet =
    list_append q (changes a) (ranged changes (a + 1) count) list
    ∙ ap (list_after q (ranged changes (a + 1) count)) (quiet a list) ∙ ranged_quiet q changes (a + 1) count list quiet
