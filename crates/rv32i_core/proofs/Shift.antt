-- A shift that copies the sign bit, as a division of the signed number and as the manual says it: on bits.
use Rattle.std.proofs.Common.{◌≡◌, ℕ, suc, ◌+◌, ◌-◌, ◌*◌, ◌/◌, ◌%◌, ◌^◌, ◌<◌, ◌≤◌, sym, ◌∙◌, ap, arith, to_z, of_z, w32, mod-lt, lit<}
use Rattle.std.proofs.lemmas.Nat.{div-mul-add, div-add-mod', div_below, pow-add, pow_pos}
use Rattle.std.proofs.Math.Nat.{mul_comm, pow-le-pow_right}
use Rattle.std.specs.Int.{int_shr}
use Rattle.rv32i_core.specs.Integers.{shifted_right_signed}

-- the complement of u * p + r within p * (u + 1 + d), divided by p
complement_by_parts : (p u r d : ℕ) → r < p → (p * (u + 1 + d) - suc (u * p + r)) / p ≡ d
complement_by_parts p u r d below =
    let split : p * (u + 1 + d) - suc (u * p + r) ≡ d * p + (p - suc r) = omega arith in
    let small : p - suc r < p = omega arith in
    rw split (div-mul-add d p (p - suc r) small)

-- the complement of a number within p * q, divided by p, is the complement of its quotient within q
complement_quotient : (p q u r : ℕ) → r < p → u < q → (p * q - suc (u * p + r)) / p + suc u ≡ q
complement_quotient p q u r below under =
    let e : u + 1 + (q - suc u) ≡ q = omega arith in
    let h : (p * (u + 1 + (q - suc u)) - suc (u * p + r)) / p ≡ q - suc u = complement_by_parts p u r (q - suc u) below in
    let h' : (p * q - suc (u * p + r)) / p ≡ q - suc u = rw e at h in
    omega arith

-- the complement of a number of 32 bits, shifted, is the complement of the shifted number in the bits that are left
complement_shifted : (a by : ℕ) → a < 2 ^ 32 → by < 32 → (2 ^ 32 - suc a) / 2 ^ by + suc (a / 2 ^ by) ≡ 2 ^ (32 - by)
complement_shifted a by fits small =
    let positive : 0 < 2 ^ by = pow_pos by in
    let parts : a / 2 ^ by * 2 ^ by + a % 2 ^ by ≡ a = div-add-mod' a (2 ^ by) in
    let exponent : by + (32 - by) ≡ 32 = omega arith in
    let whole : 2 ^ by * 2 ^ (32 - by) ≡ 2 ^ 32 = sym (pow-add 2 by (32 - by)) ∙ ap (λ k. 2 ^ k) exponent in
    let rest : a % 2 ^ by < 2 ^ by = mod-lt a positive in
    let quotient : a / 2 ^ by < 2 ^ (32 - by) = div_below a (2 ^ by) (2 ^ (32 - by)) positive (omega (arith, whole, mul_comm (2 ^ by) (2 ^ (32 - by)))) in
    let h : (2 ^ by * 2 ^ (32 - by) - suc (a / 2 ^ by * 2 ^ by + a % 2 ^ by)) / 2 ^ by + suc (a / 2 ^ by) ≡ 2 ^ (32 - by) =
    complement_quotient (2 ^ by) (2 ^ (32 - by)) (a / 2 ^ by) (a % 2 ^ by) rest quotient in
    rw (whole, parts) at h

-- the signed number divided by 2 ^ by, rounded down, as 32 bits
pub signed_shift : (a by : ℕ) → a < 2 ^ 32 → by < 32 → of_z w32 (int_shr (to_z w32 a) by) ≡ shifted_right_signed a by
signed_shift a by fits small =
    let key : (2 ^ 32 - suc a) / 2 ^ by + suc (a / 2 ^ by) ≡ 2 ^ (32 - by) = complement_shifted a by fits small in
    let bound : 2 ^ (32 - by) ≤ 2 ^ 32 = pow-le-pow_right {n = 2} (lit< tt) {i = 32 - by} {j = 32} (omega arith) in
    grind arith
