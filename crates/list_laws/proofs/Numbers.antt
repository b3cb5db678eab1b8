-- Numbers, and their digits.
use Rattle.std.proofs.Common.{Bool, arith, eq-eqb, false, le-ltb, lt-ltb, ltb-false, ltb-true, nat_lt, ne_eqb, refl, suc, sym, true, zero, ℕ, ◌+◌, ◌-◌, ◌<◌, ◌==◌, ◌^◌, ◌∙◌, ◌≡◌, ◌≤◌}
use Rattle.std.proofs.lemmas.Bool.{eq-eqb, eqb-false}
use Rattle.std.proofs.lemmas.Fmt.{decimal_injective}
use Rattle.std.proofs.lemmas.Slice.Eq.{bytes_eq-Decides}
use Rattle.std.specs.Prelude.{bytes_eq, decimal}

pub above_zero : (n : ℕ) → (n == 0) ≡ false → 0 < n
above_zero zero is = cc
above_zero (suc n) is = omega arith

pub below_zero : {n : ℕ} → n < 0 → ⊥
below_zero less = omega (arith, less)

pub decimal_itself : (n : ℕ) → bytes_eq (decimal n) (decimal n) ≡ true
decimal_itself n = (bytes_eq-Decides (decimal n) (decimal n)).1 refl

pub lt_more : (p n : ℕ) → nat_lt (suc p) (suc n) ≡ nat_lt p n
lt_more p n = by_flag (nat_lt p n) refl
  where
    by_flag : (flag : Bool) → nat_lt p n ≡ flag → nat_lt (suc p) (suc n) ≡ nat_lt p n
    by_flag true is = let less : p < n = ltb-true p n is in lt-ltb (suc p) (suc n) (omega arith) ∙ sym is
    by_flag false is = let more : n ≤ p = ltb-false p n is in le-ltb (suc p) (suc n) (omega arith) ∙ sym is

pub number_itself : (number : ℕ) → (number == number) ≡ true
number_itself number = eq-eqb number number refl

pub one_left : (count done : ℕ) → done < count → count - done ≡ suc (count - (done + 1))
one_left count done fewer = omega arith

pub other_decimals : (m n : ℕ) → m < 2 ^ 64 → n < 2 ^ 64 → (m ≡ n → ⊥) → bytes_eq (decimal m) (decimal n) ≡ false
other_decimals m n few less differ = by_flag (bytes_eq (decimal m) (decimal n)) refl
  where
    by_flag : (flag : Bool) → bytes_eq (decimal m) (decimal n) ≡ flag → flag ≡ false
    by_flag true is = absurd (differ (decimal_injective m n few less ((bytes_eq-Decides (decimal m) (decimal n)).0 is)))
    by_flag false is = refl

pub other_number : (m n : ℕ) → (m == n) ≡ false → (n == m) ≡ false
other_number m n is = ne_eqb n m (λ same. eqb-false m n is (sym same))

pub same_number : (m n : ℕ) → m ≡ n → (m == n) ≡ true
same_number m n is = eq-eqb m n is
