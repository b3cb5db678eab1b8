-- The words of RV32I and of its extension M, and the instruction that each one is.
-- The RISC-V Instruction Set Manual, volume I: Unprivileged ISA, version 20191213: the tables "RV32I Base Instruction Set"
-- and "RV32M Standard Extension" in "RV32/64G Instruction Set Listings" (24).
use Rattle.std.specs.Prelude.{ℕ, ◌==◌, ◌<◌, List, [], ◌∷◌, Option, Some, None, option_map, option_and_then, pos, if◌then◌else◌}
use Rattle.rv32i_core.specs.Word.{opcode_of, rd_of, funct3_of, rs1_of, rs2_of, funct7_of, immediate_i, immediate_s, immediate_b, immediate_u, immediate_j}
use Rattle.rv32i_core.specs.declared.instructions.Instruction.{Instruction}
use Rattle.rv32i_core.specs.declared.instructions.Instruction.TheVariants.{Lui, Auipc, Jal, Jalr, Load, ImmOp, Branch, Store, Op, Fence, Ecall, Ebreak}
use Rattle.rv32i_core.specs.declared.instructions.LoadKind.{LoadKind}
use Rattle.rv32i_core.specs.declared.instructions.LoadKind.TheVariants.{Lb, Lh, Lw, Lbu, Lhu}
use Rattle.rv32i_core.specs.declared.instructions.StoreKind.{StoreKind}
use Rattle.rv32i_core.specs.declared.instructions.StoreKind.TheVariants.{Sb, Sh, Sw}
use Rattle.rv32i_core.specs.declared.instructions.BranchKind.{BranchKind}
use Rattle.rv32i_core.specs.declared.instructions.BranchKind.TheVariants.{Beq, Bne, Blt, Bge, Bltu, Bgeu}
use Rattle.rv32i_core.specs.declared.instructions.ImmKind.{ImmKind}
use Rattle.rv32i_core.specs.declared.instructions.ImmKind.TheVariants.{Addi, Slti, Sltiu, Xori, Ori, Andi, Slli, Srli, Srai}
use Rattle.rv32i_core.specs.declared.instructions.OpKind.{OpKind}
use Rattle.rv32i_core.specs.declared.instructions.OpKind.TheVariants.{Add, Sub, Sll, Slt, Sltu, Xor, Srl, Sra, Or, And, Mul, Mulh, Mulhsu, Mulhu, Div, Divu, Rem, Remu}

-- ---- reading a table

-- what stands beside a number; none where no row has it
abbrev pub entry_at : {A : Type 0} → ℕ → List (ℕ × A) → Option A
entry_at n [] = None
entry_at n (row ∷ rows) = if n == row.0 then Some row.1 else entry_at n rows

-- the same in a table of tables
abbrev pub entry_under : {A : Type 0} → ℕ → ℕ → List (ℕ × List (ℕ × A)) → Option A
entry_under m n tables = option_and_then (λ rows. entry_at n rows) (entry_at m tables)

-- the first, or the second where there is no first
abbrev pub or_else : {A : Type 0} → Option A → Option A → Option A
or_else (Some x) second = Some x
or_else None second = second

-- ---- names by funct3

abbrev pub branches : List (ℕ × BranchKind)
branches = (0b000, Beq) ∷ (0b001, Bne) ∷ (0b100, Blt) ∷ (0b101, Bge) ∷ (0b110, Bltu) ∷ (0b111, Bgeu) ∷ []

abbrev pub loads : List (ℕ × LoadKind)
loads = (0b000, Lb) ∷ (0b001, Lh) ∷ (0b010, Lw) ∷ (0b100, Lbu) ∷ (0b101, Lhu) ∷ []

abbrev pub stores : List (ℕ × StoreKind)
stores = (0b000, Sb) ∷ (0b001, Sh) ∷ (0b010, Sw) ∷ []

abbrev pub immediate_operations : List (ℕ × ImmKind)
immediate_operations = (0b000, Addi) ∷ (0b010, Slti) ∷ (0b011, Sltiu) ∷ (0b100, Xori) ∷ (0b110, Ori) ∷ (0b111, Andi) ∷ []

-- ---- names by funct7 and, under each of those, by funct3

abbrev pub immediate_shifts : List (ℕ × List (ℕ × ImmKind))
immediate_shifts =
    (0b0000000, (0b001, Slli) ∷ (0b101, Srli) ∷ []) ∷
    (0b0100000, (0b101, Srai) ∷ []) ∷ []

abbrev pub base_operations : List (ℕ × OpKind)
base_operations =
    (0b000, Add) ∷ (0b001, Sll) ∷ (0b010, Slt) ∷ (0b011, Sltu) ∷
    (0b100, Xor) ∷ (0b101, Srl) ∷ (0b110, Or) ∷ (0b111, And) ∷ []

abbrev pub multiplications : List (ℕ × OpKind)
multiplications =
    (0b000, Mul) ∷ (0b001, Mulh) ∷ (0b010, Mulhsu) ∷ (0b011, Mulhu) ∷
    (0b100, Div) ∷ (0b101, Divu) ∷ (0b110, Rem) ∷ (0b111, Remu) ∷ []

abbrev pub alternate_operations : List (ℕ × OpKind)
alternate_operations = (0b000, Sub) ∷ (0b101, Sra) ∷ []

abbrev pub operations : List (ℕ × List (ℕ × OpKind))
operations =
    (0b0000000, base_operations) ∷
    (0b0000001, multiplications) ∷
    (0b0100000, alternate_operations) ∷ []

-- ---- the instructions of each opcode, with their fields

abbrev pub lui_row : ℕ → Option Instruction
lui_row word = Some (Lui (rd_of word) (immediate_u word))

abbrev pub auipc_row : ℕ → Option Instruction
auipc_row word = Some (Auipc (rd_of word) (immediate_u word))

abbrev pub jal_row : ℕ → Option Instruction
jal_row word = Some (Jal (rd_of word) (immediate_j word))

abbrev pub jalr_row : ℕ → Option Instruction
jalr_row word = entry_at (funct3_of word) ((0b000, Jalr (rd_of word) (rs1_of word) (immediate_i word)) ∷ [])

abbrev pub branch_row : ℕ → Option Instruction
branch_row word =
    option_map (λ kind. Branch kind (rs1_of word) (rs2_of word) (immediate_b word)) (entry_at (funct3_of word) branches)

abbrev pub load_row : ℕ → Option Instruction
load_row word =
    option_map (λ kind. Load kind (rd_of word) (rs1_of word) (immediate_i word)) (entry_at (funct3_of word) loads)

abbrev pub store_row : ℕ → Option Instruction
store_row word =
    option_map (λ kind. Store kind (rs1_of word) (rs2_of word) (immediate_s word)) (entry_at (funct3_of word) stores)

-- a shift's amount stands where other words have rs2
abbrev pub immediate_shift_row : ℕ → Option Instruction
immediate_shift_row word =
    option_map (λ kind. ImmOp kind (rd_of word) (rs1_of word) (pos (rs2_of word)))
    (entry_under (funct7_of word) (funct3_of word) immediate_shifts)

abbrev pub op_imm_row : ℕ → Option Instruction
op_imm_row word = or_else
    (option_map (λ kind. ImmOp kind (rd_of word) (rs1_of word) (immediate_i word))
    (entry_at (funct3_of word) immediate_operations))
    (immediate_shift_row word)

abbrev pub op_row : ℕ → Option Instruction
op_row word =
    option_map (λ kind. Op kind (rd_of word) (rs1_of word) (rs2_of word))
    (entry_under (funct7_of word) (funct3_of word) operations)

-- FENCE, whatever its other fields
abbrev pub misc_mem_row : ℕ → Option Instruction
misc_mem_row word = entry_at (funct3_of word) ((0b000, Fence) ∷ [])

-- two whole words
abbrev pub system_row : ℕ → Option Instruction
system_row word = entry_at word ((0x00000073, Ecall) ∷ (0x00100073, Ebreak) ∷ [])

-- ---- the listing, by opcode

abbrev pub listing : List (ℕ × (ℕ → Option Instruction))
listing =
    (0b0110111, lui_row) ∷
    (0b0010111, auipc_row) ∷
    (0b1101111, jal_row) ∷
    (0b1100111, jalr_row) ∷
    (0b1100011, branch_row) ∷
    (0b0000011, load_row) ∷
    (0b0100011, store_row) ∷
    (0b0010011, op_imm_row) ∷
    (0b0110011, op_row) ∷
    (0b0001111, misc_mem_row) ∷
    (0b1110011, system_row) ∷ []

-- the instruction that a word is; none where no row has it
unfoldable pub instruction_of : ℕ → Option Instruction
instruction_of word = option_and_then (λ row. row word) (entry_at (opcode_of word) listing)

-- ---- the numbers of registers are below 32

abbrev pub NamesRegisters : Instruction → Type 0
NamesRegisters (Lui rd imm) = rd < 32
NamesRegisters (Auipc rd imm) = rd < 32
NamesRegisters (Jal rd imm) = rd < 32
NamesRegisters (Jalr rd rs1 imm) = (rd < 32) × (rs1 < 32)
NamesRegisters (Branch kind rs1 rs2 imm) = (rs1 < 32) × (rs2 < 32)
NamesRegisters (Load kind rd rs1 imm) = (rd < 32) × (rs1 < 32)
NamesRegisters (Store kind rs1 rs2 imm) = (rs1 < 32) × (rs2 < 32)
NamesRegisters (ImmOp kind rd rs1 imm) = (rd < 32) × (rs1 < 32)
NamesRegisters (Op kind rd rs1 rs2) = (rd < 32) × (rs1 < 32) × (rs2 < 32)
NamesRegisters Fence = Unit {0}
NamesRegisters Ecall = Unit {0}
NamesRegisters Ebreak = Unit {0}
