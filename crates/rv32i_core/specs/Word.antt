-- The fields and the immediates of an instruction word.
-- The RISC-V Instruction Set Manual, volume I: Unprivileged ISA, version 20191213: "Base Instruction Formats" (2.2) and
-- "Immediate Encoding Variants" (2.3).
use Rattle.std.specs.Prelude.{ℕ, ◌+◌, ◌-◌, ◌*◌, ◌/◌, ◌%◌, ◌^◌, ℤ, pos, ◌-ℤ◌, nat_lt, if◌then◌else◌}

-- bits `high` down to `low` of a word, as one number; bit 0 is the lowest
abbrev pub bits : ℕ → ℕ → ℕ → ℕ
bits word high low = word / 2 ^ low % 2 ^ (high + 1 - low)

-- ---- fields (2.2)

abbrev pub opcode_of : ℕ → ℕ
opcode_of word = bits word 6 0

abbrev pub rd_of : ℕ → ℕ
rd_of word = bits word 11 7

abbrev pub funct3_of : ℕ → ℕ
funct3_of word = bits word 14 12

abbrev pub rs1_of : ℕ → ℕ
rs1_of word = bits word 19 15

abbrev pub rs2_of : ℕ → ℕ
rs2_of word = bits word 24 20

abbrev pub funct7_of : ℕ → ℕ
funct7_of word = bits word 31 25

-- ---- immediates (2.3)

-- a number of `width` bits read as two's complement: its highest bit is the sign
abbrev pub sign_extended : ℕ → ℕ → ℤ
sign_extended width n = if nat_lt n (2 ^ (width - 1)) then pos n else pos n -ℤ pos (2 ^ width)

-- each immediate: bits of the word times the worth of the lowest place that they take in the immediate

abbrev pub immediate_i : ℕ → ℤ
immediate_i word = sign_extended 12 (bits word 31 20)

abbrev pub immediate_s : ℕ → ℤ
immediate_s word = sign_extended 12 (bits word 31 25 * 2 ^ 5 + bits word 11 7)

abbrev pub immediate_b : ℕ → ℤ
immediate_b word =
    sign_extended 13 (bits word 31 31 * 2 ^ 12 + bits word 7 7 * 2 ^ 11 + bits word 30 25 * 2 ^ 5 + bits word 11 8 * 2 ^ 1)

abbrev pub immediate_u : ℕ → ℤ
immediate_u word = sign_extended 32 (bits word 31 12 * 2 ^ 12)

abbrev pub immediate_j : ℕ → ℤ
immediate_j word =
    sign_extended 21 (bits word 31 31 * 2 ^ 20 + bits word 19 12 * 2 ^ 12 + bits word 20 20 * 2 ^ 11 + bits word 30 21 * 2 ^ 1)
