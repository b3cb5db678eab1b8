-- The numbers of live processes are positive.
use Rattle.std.proofs.Common.{◌≡◌, ℕ, ◌<◌, Bool, true, false, cond, List, [], ◌∷◌, All, filter, sym, subst, arith}
use Rattle.std.specs.List.{AllByRecursion}
use Rattle.std.proofs.lemmas.List.Elements.{All-from_recursion}
use Rattle.target_contexts.specs.Live.{IsOrderly, Rise, numbers_of, process_of}
use Rattle.target_contexts.specs.Named.{attached_in, is_attached}
use Rattle.target_contexts.specs.ProcessValue.{ProcessValue}

above : (low : ℕ) (numbers : List ℕ) (next : ℕ) → Rise low numbers next → AllByRecursion (λ n. 0 < n) numbers
above low [] next rise = tt
above low (number ∷ numbers) next rise = (omega (arith, rise.0), above number numbers next rise.1)

kept_by : (p : ℕ → Type 0) (x : ℕ) (xs : List ℕ) (b : Bool) → p x → AllByRecursion p xs → AllByRecursion p (cond b (x ∷ xs) xs)
kept_by p x xs true here rest = (here, rest)
kept_by p x xs false here rest = rest

kept : (p : ℕ → Type 0) (test : ℕ → Bool) (xs : List ℕ) → AllByRecursion p xs → AllByRecursion p (filter test xs)
kept p test [] all = tt
kept p test (x ∷ xs) all = kept_by p x (filter test xs) (test x) all.0 (kept p test xs all.1)

pub positive_numbers : (numbers : List ℕ) (rows : List (ℕ × ProcessValue)) (next : ℕ) → numbers ≡ numbers_of rows → IsOrderly rows next → All (λ n. 0 < n) numbers
positive_numbers numbers rows next are orderly =
    subst (All (λ n. 0 < n)) (sym are) (All-from_recursion (λ n. 0 < n) (numbers_of rows) (above 0 (numbers_of rows) next orderly.rising))

pub positive_attached : (numbers : List ℕ) (rows : List (ℕ × ProcessValue)) (next : ℕ) → numbers ≡ attached_in rows → IsOrderly rows next → All (λ n. 0 < n) numbers
positive_attached numbers rows next are orderly =
    subst (All (λ n. 0 < n)) (sym are) (All-from_recursion (λ n. 0 < n) (attached_in rows)
    (kept (λ n. 0 < n) (λ n. is_attached (process_of n rows)) (numbers_of rows) (above 0 (numbers_of rows) next orderly.rising)))
