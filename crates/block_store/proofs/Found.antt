-- The first block of a list that passes, where it stands behind others that fail.
use Rattle.std.proofs.Common.{◌≡◌, suc, ◌+◌, nat_lt, Bool, true, false, cond, not, None, Some, List, [], ◌∷◌, ◌++◌, length, take, drop, find, position, refl, ap, ◌∙◌, arith}
use Rattle.std.specs.List.{AllByRecursion, position_or_len, remove}
use Rattle.std.proofs.lemmas.Bool.{le-ltb, lt-ltb}
use Rattle.std.proofs.lemmas.List.{drop_at, length-append, take_at}
use Rattle.block_store.specs.Store.{moved_first}
use Rattle.block_store.specs.declared.block.Block.{Block}

module _ {A : Type 0} where
  pub find_none : (test : A → Bool) (xs : List A) → AllByRecursion (λ x. test x ≡ false) xs → find test xs ≡ None
  find_none test [] none = refl
  find_none test (x ∷ xs) none = ap (λ b. cond b (Some x) (find test xs)) none.0 ∙ find_none test xs none.1

  pub find_behind : (test : A → Bool) (xs : List A) (x : A) (ys : List A) → AllByRecursion (λ x. test x ≡ false) xs → test x ≡ true → find test (xs ++ x ∷ ys) ≡ Some x
  find_behind test [] x ys none passes = ap (λ b. cond b (Some x) (find test ys)) passes
  find_behind test (z ∷ xs) x ys none passes =
      ap (λ b. cond b (Some z) (find test (xs ++ x ∷ ys))) none.0 ∙ find_behind test xs x ys none.1 passes

  nowhere_len : (test : A → Bool) (xs : List A) → AllByRecursion (λ x. test x ≡ false) xs → position_or_len test xs ≡ length xs
  nowhere_len test [] none = refl
  nowhere_len test (x ∷ xs) none =
      let rest = nowhere_len test xs none.1 in
      ap (λ b. cond (not b) (1 + position_or_len test xs) 0) none.0 ∙ omega (arith, rest)

  place_len : (test : A → Bool) (xs : List A) (x : A) (ys : List A) → AllByRecursion (λ x. test x ≡ false) xs → test x ≡ true → position_or_len test (xs ++ x ∷ ys) ≡ length xs
  place_len test [] x ys none passes = ap (λ b. cond (not b) (1 + position_or_len test ys) 0) passes
  place_len test (z ∷ xs) x ys none passes =
      let rest = place_len test xs x ys none.1 passes in
      ap (λ b. cond (not b) (1 + position_or_len test (xs ++ x ∷ ys)) 0) none.0 ∙ omega (arith, rest)

  pub place_behind : (test : A → Bool) (xs : List A) (x : A) (ys : List A) → AllByRecursion (λ x. test x ≡ false) xs → test x ≡ true → position test (xs ++ x ∷ ys) ≡ Some (length xs)
  place_behind test xs x ys none passes =
      let many = length-append xs (x ∷ ys) in
      ap (λ n. cond (nat_lt n (length (xs ++ x ∷ ys))) (Some n) None) (place_len test xs x ys none passes)
      ∙ ap (λ b. cond b (Some (length xs)) None) (lt-ltb (length xs) (length (xs ++ x ∷ ys)) (omega (arith, many)))

  pub place_nowhere : (test : A → Bool) (xs : List A) → AllByRecursion (λ x. test x ≡ false) xs → position test xs ≡ None
  place_nowhere test xs none =
      ap (λ n. cond (nat_lt n (length xs)) (Some n) None) (nowhere_len test xs none)
      ∙ ap (λ b. cond b (Some (length xs)) None) (le-ltb (length xs) (length xs) (omega arith))

  past_one : (xs : List A) (x : A) (ys : List A) → drop (suc (length xs)) (xs ++ x ∷ ys) ≡ ys
  past_one [] x ys = refl
  past_one (z ∷ xs) x ys = past_one xs x ys

-- a block is moved before those that stand in front of it
pub moved_behind : (xs : List Block) (x : Block) (ys : List Block) → moved_first (Some (length xs)) (xs ++ x ∷ ys) ≡ x ∷ (xs ++ ys)
moved_behind xs x ys =
    ap (λ rest. take 1 rest ++ remove (xs ++ x ∷ ys) (length xs)) (drop_at xs (x ∷ ys) (length xs) refl)
    ∙ ap (λ front. x ∷ (front ++ drop (suc (length xs)) (xs ++ x ∷ ys))) (take_at xs (x ∷ ys) (length xs) refl)
    ∙ ap (λ back. x ∷ (xs ++ back)) (past_one xs x ys)
