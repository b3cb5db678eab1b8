-- The immediate of each instruction that a word is, as 32 bits.
use Rattle.std.proofs.Common.{◌≡◌, ℕ, ◌+◌, ◌-◌, ◌*◌, ◌/◌, ◌^◌, ◌<◌, ◌==◌, Bool, true, false, cond, List, [], ◌∷◌, pos, Option, Some, None, IfSome, option_map, refl, subst, arith}
use Rattle.std.specs.Prelude.{option_and_then}
use Rattle.std.specs.List.{AllByRecursion}
use Rattle.std.proofs.lemmas.Nat.{mod_below}
use Rattle.std.proofs.Math.Dec.{lit<}
use Rattle.rv32i_core.specs.Integers.{unsigned}
use Rattle.rv32i_core.specs.Laws.{IsWord}
use Rattle.rv32i_core.specs.Listing.{branches, entry_at, entry_under, immediate_operations, immediate_shifts, instruction_of, listing, loads, op_imm_row, operations, or_else, stores}
use Rattle.rv32i_core.specs.Word.{bits, funct3_of, funct7_of, immediate_i, immediate_u, opcode_of, rd_of, rs1_of, rs2_of}
use Rattle.rv32i_core.specs.declared.instructions.ImmKind.{ImmKind}
use Rattle.rv32i_core.specs.declared.instructions.Instruction.{Instruction}
use Rattle.rv32i_core.specs.declared.instructions.Instruction.TheVariants.{Lui, ImmOp, Ecall, Ebreak}
use Rattle.rv32i_core.proofs.Words.{extended_below}

-- the immediates that go into a register as they are, or bit by bit
abbrev pub HasWord : Instruction → Type 0
HasWord (Lui rd imm) = IsWord (unsigned imm)
HasWord (ImmOp kind rd rs1 imm) = IsWord (unsigned imm)
HasWord _ = Unit {0}

abbrev AreWords : Option Instruction → Type 0
AreWords o = IfSome o HasWord

-- ---- the immediates

field_below : (word high low count : ℕ) → 0 < 2 ^ (high + 1 - low) → 2 ^ (high + 1 - low) ≡ count → bits word high low < count
field_below word high low count positive is = subst (λ c. bits word high low < c) is (mod_below (word / 2 ^ low) (2 ^ (high + 1 - low)) positive)

lower_word : (word : ℕ) → IsWord (unsigned (immediate_i word))
lower_word word = extended_below 12 (bits word 31 20) (omega (arith, field_below word 31 20 4096 (lit< tt) refl))

upper_word : (word : ℕ) → IsWord (unsigned (immediate_u word))
upper_word word = extended_below 32 (bits word 31 12 * 2 ^ 12) (omega (arith, field_below word 31 12 1048576 (lit< tt) refl))

shift_word : (word : ℕ) → IsWord (unsigned (pos (rs2_of word)))
shift_word word = omega (arith, field_below word 24 20 32 (lit< tt) refl)

-- ---- the tables

mapped : {A : Type 0} (make : A → Instruction) (o : Option A) → ((a : A) → HasWord (make a)) → AreWords (option_map make o)
mapped make None has = tt
mapped make (Some a) has = has a

first_of : (first second : Option Instruction) → AreWords first → AreWords second → AreWords (or_else first second)
first_of (Some instruction) second has also = has
first_of None second has also = also

immediates : (word : ℕ) → AreWords (op_imm_row word)
immediates word =
    first_of _ _
    (mapped (λ (kind : ImmKind). ImmOp kind (rd_of word) (rs1_of word) (immediate_i word)) (entry_at (funct3_of word) immediate_operations) (λ kind. lower_word word))
    (mapped (λ (kind : ImmKind). ImmOp kind (rd_of word) (rs1_of word) (pos (rs2_of word))) (entry_under (funct7_of word) (funct3_of word) immediate_shifts) (λ kind. shift_word word))

-- an entry that is there or not
one_entry : (is_it : Bool) (instruction : Instruction) (others : Option Instruction) → HasWord instruction → AreWords others → AreWords (cond is_it (Some instruction) others)
one_entry true instruction others has also = has
one_entry false instruction others has also = also

row_by : (is_it : Bool) (word : ℕ) (row : ℕ → Option Instruction) (others : Option (ℕ → Option Instruction)) → AreWords (row word) → AreWords (option_and_then (λ r. r word) others)
    → AreWords (option_and_then (λ r. r word) (cond is_it (Some row) others))
row_by true word row others has also = has
row_by false word row others has also = also

in_rows : (word opcode : ℕ) (rows : List (ℕ × (ℕ → Option Instruction))) → AllByRecursion (λ row. AreWords (row.1 word)) rows
    → AreWords (option_and_then (λ row. row word) (entry_at opcode rows))
in_rows word opcode [] all = tt
in_rows word opcode (row ∷ rows) all = row_by (opcode == row.0) word row.1 (entry_at opcode rows) all.0 (in_rows word opcode rows all.1)

pub word_given : (word : ℕ) → IfSome (instruction_of word) HasWord
unfolding instruction_of
word_given word =
    let branch = mapped _ (entry_at (funct3_of word) branches) (λ kind. tt) in
    let load = mapped _ (entry_at (funct3_of word) loads) (λ kind. tt) in
    let store = mapped _ (entry_at (funct3_of word) stores) (λ kind. tt) in
    let operation = mapped _ (entry_under (funct7_of word) (funct3_of word) operations) (λ kind. tt) in
    let system = one_entry (word == 0x00000073) Ecall (cond (word == 0x00100073) (Some Ebreak) None) tt (one_entry (word == 0x00100073) Ebreak None tt tt) in
    in_rows word (opcode_of word) listing
    (upper_word word, (tt, (tt, (one_entry _ _ None tt tt, (branch, (load, (store, (immediates word, (operation, (one_entry _ _ None tt tt, (system, tt)))))))))))
