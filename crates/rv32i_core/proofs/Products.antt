-- Products of numbers of 32 bits, which 64 bits hold.
use Rattle.std.proofs.Common.{ℕ, zero, suc, ◌-◌, ◌*◌, ◌^◌, ◌<◌, ◌≤◌, ℤ, pos, negsuc, ◌*ℤ◌, neg_ℤ, arith, w32, w64}
use Rattle.std.specs.Prelude.{FitsSigned}
use Rattle.std.proofs.lemmas.Nat.{mul-le, mul-lt}

pub unsigned_fits : (a b : ℕ) → a < 2 ^ 32 → b < 2 ^ 32 → a * b < 2 ^ 64
unsigned_fits a b fits fits_too = omega (arith, mul-lt a b (2 ^ 32) (2 ^ 32) fits fits_too)

-- a whole number's size is at most this
abbrev IsUnder : ℕ → ℤ → Type 0
IsUnder most (pos n) = n ≤ most
IsUnder most (negsuc n) = suc n ≤ most

below_zero : (n : ℕ) → n ≤ 2 ^ 63 → FitsSigned w64 (neg_ℤ (pos n))
below_zero zero under = record { sfits = omega arith }
below_zero (suc n) under = record { sfits = omega (arith, under) }

product_fits : (most limit : ℕ) (x y : ℤ) → most * limit < 2 ^ 63 → IsUnder most x → IsUnder limit y → FitsSigned w64 (x *ℤ y)
product_fits most limit (pos a) (pos b) small p q = record { sfits = omega (arith, mul-le a b most limit p q, small) }
product_fits most limit (pos a) (negsuc b) small p q = below_zero (a * suc b) (omega (arith, mul-le a (suc b) most limit p q, small))
product_fits most limit (negsuc a) (pos b) small p q = below_zero (suc a * b) (omega (arith, mul-le (suc a) b most limit p q, small))
product_fits most limit (negsuc a) (negsuc b) small p q = record { sfits = omega (arith, mul-le (suc a) (suc b) most limit p q, small) }

word_under : (x : ℤ) → FitsSigned w32 x → IsUnder (2 ^ 31) x
word_under (pos n) fits = omega (arith, fits.sfits)
word_under (negsuc n) fits = omega (arith, fits.sfits)

pub signed_fits : (x y : ℤ) → FitsSigned w32 x → FitsSigned w32 y → FitsSigned w64 (x *ℤ y)
signed_fits x y fits fits_too = product_fits (2 ^ 31) (2 ^ 31) x y (omega arith) (word_under x fits) (word_under y fits_too)

pub mixed_fits : (x : ℤ) (b : ℕ) → FitsSigned w32 x → b < 2 ^ 32 → FitsSigned w64 (x *ℤ pos b)
mixed_fits x b fits below = product_fits (2 ^ 31) (2 ^ 32 - 1) x (pos b) (omega arith) (word_under x fits) (omega (arith, below))
