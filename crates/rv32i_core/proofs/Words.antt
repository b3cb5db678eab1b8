-- What the machine computes is below 2^32, from bytes below 256 and numbers below 2^32.
use Rattle.std.proofs.Common.{◌≡◌, ℕ, zero, suc, ◌+◌, ◌-◌, ◌/◌, ◌%◌, ◌^◌, ◌<◌, ◌≤◌, nat_lt, Bool, true, false, cond, List, [], ◌∷◌, ℤ, pos, ◌-ℤ◌, ◌*ℤ◌, ◌==◌, slice_index, arith, w32, w64}
use Rattle.std.specs.Int.Bits.{and_lt}
use Rattle.std.specs.List.{AllByRecursion}
use Rattle.std.proofs.lemmas.Nat.{mod_below, or_of_32, shr_below, xor_of_32}
use Rattle.std.proofs.Math.Dec.{lit<}
use Rattle.std.proofs.Math.Facts.{Fits-of_z, sfits_to_z}
use Rattle.std.proofs.Math.Nat.{div-le_self, mod-le, pow-le-pow_right}
use Rattle.std.specs.Prelude.{FitsSigned}
use Rattle.rv32i_core.specs.Bytes.{halfword_at, word_at}
use Rattle.rv32i_core.specs.Integers.{amount, immediate_result, one_if, operation_result, shifted_right, shifted_right_signed, signed, unsigned, upper}
use Rattle.rv32i_core.specs.Laws.{IsWord}
use Rattle.rv32i_core.specs.Word.{sign_extended}
use Rattle.rv32i_core.specs.declared.instructions.ImmKind.{ImmKind}
use Rattle.rv32i_core.specs.declared.instructions.ImmKind.TheVariants.{Addi, Slti, Sltiu, Xori, Ori, Andi, Slli, Srli, Srai}
use Rattle.rv32i_core.specs.declared.instructions.OpKind.{OpKind}
use Rattle.rv32i_core.specs.declared.instructions.OpKind.TheVariants.{Add, Sub, Sll, Slt, Sltu, Xor, Srl, Sra, Or, And, Mul, Mulh, Mulhsu, Mulhu, Div, Divu, Rem, Remu}
use Rattle.rv32i_core.proofs.Divisions.{quotient_word, remainder_word}
use Rattle.rv32i_core.proofs.Products.{mixed_fits, signed_fits, unsigned_fits}

abbrev pub AreBytes : List ℕ → Type 0
AreBytes bytes = AllByRecursion (λ byte. byte < 256) bytes

-- ---- places of lists

pub byte_below : (bytes : List ℕ) (place : ℕ) → AreBytes bytes → slice_index bytes place < 256
byte_below [] place are = omega arith
byte_below (byte ∷ bytes) zero are = are.0
byte_below (byte ∷ bytes) (suc place) are = byte_below bytes place are.1

pub number_below : (numbers : List ℕ) (place : ℕ) → AllByRecursion IsWord numbers → slice_index numbers place < 2 ^ 32
number_below [] place are = omega arith
number_below (number ∷ numbers) zero are = are.0
number_below (number ∷ numbers) (suc place) are = number_below numbers place are.1

-- ---- numbers in memory

pub halfword_below : (memory : List ℕ) (place : ℕ) → AreBytes memory → halfword_at memory place < 2 ^ 16
halfword_below memory place are = omega (arith, byte_below memory place are, byte_below memory (place + 1) are)

pub word_below : (memory : List ℕ) (place : ℕ) → AreBytes memory → IsWord (word_at memory place)
word_below memory place are = omega (arith, halfword_below memory place are, halfword_below memory (place + 2) are)

-- ---- signed numbers

pub less_below : (a b : ℕ) → a < 2 ^ 32 → IsWord (unsigned (pos a -ℤ pos b))
less_below a b below = grind arith

extended_by : (is_small : Bool) (width n : ℕ) → n < 2 ^ 32 → IsWord (unsigned (cond is_small (pos n) (pos n -ℤ pos (2 ^ width))))
extended_by true width n below = below
extended_by false width n below = less_below n (2 ^ width) below

pub extended_below : (width n : ℕ) → n < 2 ^ 32 → IsWord (unsigned (sign_extended width n))
extended_below width n below = extended_by (nat_lt n (2 ^ (width - 1))) width n below

-- ---- results

pub rest_below : (n : ℕ) → IsWord (n % 2 ^ 32)
rest_below n = mod_below n (2 ^ 32) (lit< tt)

one_below : (test : Bool) → IsWord (one_if test)
one_below true = omega arith
one_below false = omega arith

quotient_below : (a by : ℕ) → a < 2 ^ 32 → by < 32 → a / 2 ^ by < 2 ^ (32 - by)
quotient_below a by below small =
    let exponent : 32 - by + by ≡ 32 = omega arith in
    shr_below a (32 - by) by (rw exponent below)

power_within : (by : ℕ) → 2 ^ (32 - by) ≤ 2 ^ 32
power_within by = pow-le-pow_right {n = 2} (lit< tt) {i = 32 - by} {j = 32} (omega arith)

right_below : (a by : ℕ) → a < 2 ^ 32 → by < 32 → IsWord (shifted_right a by)
right_below a by below small = omega (arith, quotient_below a by below small, power_within by)

signed_by : (is_positive : Bool) (a by : ℕ) → a < 2 ^ 32 → by < 32 → IsWord (a / 2 ^ by + cond is_positive 0 (2 ^ 32 - 2 ^ (32 - by)))
signed_by true a by below small = omega (arith, quotient_below a by below small, power_within by)
signed_by false a by below small = omega (arith, quotient_below a by below small, power_within by)

signed_below : (a by : ℕ) → a < 2 ^ 32 → by < 32 → IsWord (shifted_right_signed a by)
signed_below a by below small = signed_by (nat_lt a (2 ^ 31)) a by below small

amount_below : (b : ℕ) → amount b < 32
amount_below b = mod_below b (2 ^ 5) (lit< tt)

pub immediate_below : (kind : ImmKind) (a : ℕ) (imm : ℤ) → IsWord a → IsWord (unsigned imm) → IsWord (immediate_result kind a imm)
immediate_below Addi a imm below also = rest_below _
immediate_below Slti a imm below also = one_below _
immediate_below Sltiu a imm below also = one_below _
immediate_below Xori a imm below also = xor_of_32 a (unsigned imm) below also
immediate_below Ori a imm below also = or_of_32 a (unsigned imm) below also
immediate_below Andi a imm below also = and_lt 32 a (unsigned imm) below also
immediate_below Slli a imm below also = rest_below _
immediate_below Srli a imm below also = right_below a (amount (unsigned imm)) below (amount_below (unsigned imm))
immediate_below Srai a imm below also = signed_below a (amount (unsigned imm)) below (amount_below (unsigned imm))

upper_below : (product : ℤ) → FitsSigned w64 product → IsWord (upper product)
upper_below product fits = let whole = (Fits-of_z {w = w64} {z = product} fits).fits in omega (arith, whole)

signed_word : (a : ℕ) → IsWord a → FitsSigned w32 (signed a)
signed_word a below = sfits_to_z {w = w32} {n = a} (record { fits = below })

unsigned_product_below : (a b : ℕ) → IsWord a → IsWord b → IsWord (upper (pos a *ℤ pos b))
unsigned_product_below a b below also = omega (arith, unsigned_fits a b below also)

-- by 0, a number that has all bits set or is the dividend, and else a quotient or a remainder
by_zero_or : (is_zero : Bool) (a b : ℕ) → IsWord a → IsWord b → IsWord (cond is_zero a b)
by_zero_or true a b below also = below
by_zero_or false a b below also = also

pub operation_below : (kind : OpKind) (a b : ℕ) → IsWord a → IsWord b → IsWord (operation_result kind a b)
operation_below Add a b below also = rest_below _
operation_below Sub a b below also = rest_below _
operation_below Sll a b below also = rest_below _
operation_below Slt a b below also = one_below _
operation_below Sltu a b below also = one_below _
operation_below Xor a b below also = xor_of_32 a b below also
operation_below Srl a b below also = right_below a (amount b) below (amount_below b)
operation_below Sra a b below also = signed_below a (amount b) below (amount_below b)
operation_below Or a b below also = or_of_32 a b below also
operation_below And a b below also = and_lt 32 a b below also
operation_below Mul a b below also = rest_below _
operation_below Mulh a b below also = upper_below _ (signed_fits (signed a) (signed b) (signed_word a below) (signed_word b also))
operation_below Mulhsu a b below also = upper_below _ (mixed_fits (signed a) b (signed_word a below) also)
operation_below Mulhu a b below also = unsigned_product_below a b below also
operation_below Div a b below also = by_zero_or (b == 0) _ _ (omega arith) (quotient_word (signed a) (signed b) (signed_word a below))
operation_below Divu a b below also = by_zero_or (b == 0) _ _ (omega arith) (omega (arith, div-le_self a b, below))
operation_below Rem a b below also = by_zero_or (b == 0) _ _ below (remainder_word (signed a) (signed b) (signed_word a below))
operation_below Remu a b below also = by_zero_or (b == 0) _ _ below (omega (arith, mod-le a b, below))
