-- The integer computational instructions, on numbers of 32 bits.
-- The RISC-V Instruction Set Manual, volume I: Unprivileged ISA, version 20191213: "Integer Computational Instructions"
-- (2.4), and "\"M\" Standard Extension for Integer Multiplication and Division" (7).
use Rattle.std.specs.Prelude.{ℕ, ◌+◌, ◌-◌, ◌*◌, ◌/◌, ◌%◌, ◌^◌, ◌==◌, nat_lt, Bool, if◌then◌else◌, ℤ, pos, ◌*ℤ◌, bit_and, bit_or, bit_xor, int_div, int_rem}
use Rattle.std.specs.Int.{w32, w64, cast_signed, cast_unsigned}
use Rattle.std.specs.Int.RustNames.{int_lt}
use Rattle.rv32i_core.specs.declared.instructions.ImmKind.{ImmKind}
use Rattle.rv32i_core.specs.declared.instructions.ImmKind.TheVariants.{Addi, Slti, Sltiu, Xori, Ori, Andi, Slli, Srli, Srai}
use Rattle.rv32i_core.specs.declared.instructions.OpKind.{OpKind}
use Rattle.rv32i_core.specs.declared.instructions.OpKind.TheVariants.{Add, Sub, Sll, Slt, Sltu, Xor, Srl, Sra, Or, And, Mul, Mulh, Mulhsu, Mulhu, Div, Divu, Rem, Remu}

-- 32 bits read as two's complement, and the 32 bits of a signed number
abbrev pub signed : ℕ → ℤ
signed a = cast_signed w32 a

abbrev pub unsigned : ℤ → ℕ
unsigned z = cast_unsigned w32 z

-- overflow is ignored: the lowest 32 bits of the result are kept
abbrev pub sum : ℕ → ℕ → ℕ
sum a b = (a + b) % 2 ^ 32

abbrev pub difference : ℕ → ℕ → ℕ
difference a b = (a + (2 ^ 32 - b)) % 2 ^ 32

-- 1 where the test holds, and else 0
abbrev pub one_if : Bool → ℕ
one_if test = if test then 1 else 0

-- ---- shifts

-- how far to shift: the lowest five bits
abbrev pub amount : ℕ → ℕ
amount b = b % 2 ^ 5

abbrev pub shifted_left : ℕ → ℕ → ℕ
shifted_left a by = a * 2 ^ by % 2 ^ 32

-- zeros come into the upper bits
abbrev pub shifted_right : ℕ → ℕ → ℕ
shifted_right a by = a / 2 ^ by

-- the sign bit is copied into the upper bits, those from 32 - `by` on
abbrev pub shifted_right_signed : ℕ → ℕ → ℕ
shifted_right_signed a by = a / 2 ^ by + (if nat_lt a (2 ^ 31) then 0 else 2 ^ 32 - 2 ^ (32 - by))

-- ---- multiplication and division

-- the upper 32 of a whole product's 64 bits
abbrev pub upper : ℤ → ℕ
upper product = cast_unsigned w64 product / 2 ^ 32

-- quotients are rounded toward 0, and a remainder has the dividend's sign. By 0 the quotient has all bits set and the
-- remainder is the dividend; -2 ^ 31 by -1 is -2 ^ 31, with the remainder 0

abbrev pub quotient : ℕ → ℕ → ℕ
quotient a b = if b == 0 then 2 ^ 32 - 1 else a / b

abbrev pub remainder : ℕ → ℕ → ℕ
remainder a b = if b == 0 then a else a % b

abbrev pub signed_quotient : ℕ → ℕ → ℕ
signed_quotient a b = if b == 0 then 2 ^ 32 - 1 else unsigned (int_div (signed a) (signed b))

abbrev pub signed_remainder : ℕ → ℕ → ℕ
signed_remainder a b = if b == 0 then a else unsigned (int_rem (signed a) (signed b))

-- ---- what goes into rd

abbrev pub immediate_result : ImmKind → ℕ → ℤ → ℕ
immediate_result Addi a imm = sum a (unsigned imm)
immediate_result Slti a imm = one_if (int_lt (signed a) imm)
immediate_result Sltiu a imm = one_if (nat_lt a (unsigned imm))
immediate_result Xori a imm = bit_xor a (unsigned imm)
immediate_result Ori a imm = bit_or a (unsigned imm)
immediate_result Andi a imm = bit_and a (unsigned imm)
immediate_result Slli a imm = shifted_left a (amount (unsigned imm))
immediate_result Srli a imm = shifted_right a (amount (unsigned imm))
immediate_result Srai a imm = shifted_right_signed a (amount (unsigned imm))

abbrev pub operation_result : OpKind → ℕ → ℕ → ℕ
operation_result Add a b = sum a b
operation_result Sub a b = difference a b
operation_result Sll a b = shifted_left a (amount b)
operation_result Slt a b = one_if (int_lt (signed a) (signed b))
operation_result Sltu a b = one_if (nat_lt a b)
operation_result Xor a b = bit_xor a b
operation_result Srl a b = shifted_right a (amount b)
operation_result Sra a b = shifted_right_signed a (amount b)
operation_result Or a b = bit_or a b
operation_result And a b = bit_and a b
operation_result Mul a b = a * b % 2 ^ 32
operation_result Mulh a b = upper (signed a *ℤ signed b)
operation_result Mulhsu a b = upper (signed a *ℤ pos b)
operation_result Mulhu a b = upper (pos a *ℤ pos b)
operation_result Div a b = signed_quotient a b
operation_result Divu a b = quotient a b
operation_result Rem a b = signed_remainder a b
operation_result Remu a b = remainder a b
