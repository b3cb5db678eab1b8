-- The parts behind those that are taken.
use Rattle.std.proofs.Common.{◌≡◌, ℕ, zero, suc, ◌+◌, List, [], ◌∷◌, drop, slice_get, refl, ◌∙◌, ap, sym, arith}
use Rattle.std.proofs.Math.Seq.{drop-nil}
use Rattle.command_tables.specs.Places.{IsAtItsIndex}
use Rattle.command_tables.specs.Rows.{then_read}

first_left : {A : Type 0} (xs : List A) (n : ℕ) → slice_get (drop n xs) 0 ≡ slice_get xs n
first_left xs zero = refl
first_left [] (suc n) = refl
first_left (x ∷ xs) (suc n) = first_left xs n

rest_left : {A : Type 0} (xs : List A) (n : ℕ) → drop 1 (drop n xs) ≡ drop (n + 1) xs
rest_left xs zero = refl
rest_left [] (suc n) = sym (drop-nil (suc n + 1))
rest_left (x ∷ xs) (suc n) =
    let e : suc (n + 1) ≡ suc n + 1 = omega arith in
    rest_left xs n ∙ ap (λ k. drop k (x ∷ xs)) e

pub at_its_index : {A : Type 0} → IsAtItsIndex A
at_its_index kind next index parts =
    ap (λ left. then_read (λ x. next x (index + 1) left) (kind index (slice_get (drop index parts) 0))) (rest_left parts index)
    ∙ ap (λ part. then_read (λ x. next x (index + 1) (drop (index + 1) parts)) (kind index part)) (first_left parts index)
