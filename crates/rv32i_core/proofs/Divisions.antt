-- Quotients and remainders of signed numbers, which 32 bits hold.
use Rattle.std.proofs.Common.{◌≡◌, ℕ, zero, suc, ◌/◌, ◌%◌, ◌^◌, ◌<◌, ℤ, pos, negsuc, neg_ℤ, arith, w32}
use Rattle.std.proofs.Math.Nat.{div-le_self, mod-le}
use Rattle.std.proofs.lemmas.Int.{of_z-to_z}
use Rattle.std.specs.Int.{cast_signed, cast_unsigned}
use Rattle.std.specs.Prelude.{FitsSigned, int_div, int_rem}

pub signed_back : (n : ℕ) → n < 2 ^ 32 → cast_unsigned w32 (cast_signed w32 n) ≡ n
signed_back n fits = of_z-to_z w32 n fits

below_zero : (n : ℕ) → cast_unsigned w32 (neg_ℤ (pos n)) < 2 ^ 32
below_zero zero = omega arith
below_zero (suc n) = omega arith

pub quotient_word : (x y : ℤ) → FitsSigned w32 x → cast_unsigned w32 (int_div x y) < 2 ^ 32
quotient_word (pos a) (pos b) fits = omega (arith, div-le_self a b, fits.sfits)
quotient_word (pos a) (negsuc b) fits = below_zero (a / suc b)
quotient_word (negsuc a) (pos b) fits = below_zero (suc a / b)
quotient_word (negsuc a) (negsuc b) fits = omega (arith, div-le_self (suc a) (suc b), fits.sfits)

-- the bits of a quotient are kept as a signed number of 32 bits
pub quotient_kept : (x y : ℤ) → FitsSigned w32 x → cast_unsigned w32 (cast_signed w32 (cast_unsigned w32 (int_div x y))) ≡ cast_unsigned w32 (int_div x y)
quotient_kept x y fits = of_z-to_z w32 (cast_unsigned w32 (int_div x y)) (quotient_word x y fits)

-- a remainder is no larger than the dividend
pub remainder_word : (x y : ℤ) → FitsSigned w32 x → cast_unsigned w32 (int_rem x y) < 2 ^ 32
remainder_word (pos a) (pos b) fits = omega (arith, mod-le a b, fits.sfits)
remainder_word (pos a) (negsuc b) fits = omega (arith, mod-le a (suc b), fits.sfits)
remainder_word (negsuc a) (pos b) fits = below_zero (suc a % b)
remainder_word (negsuc a) (negsuc b) fits = below_zero (suc a % suc b)
