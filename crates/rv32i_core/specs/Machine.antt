-- The machine: what one instruction does to one processor and its memory.
-- The RISC-V Instruction Set Manual, volume I: Unprivileged ISA, version 20191213: "RV32I Base Integer Instruction Set"
-- (2), by its sections, and "Exceptions, Traps, and Interrupts" (1.6).
use Rattle.std.specs.Prelude.{ℕ, ◌-◌, ◌%◌, ◌==◌, nat_lt, nat_le, Bool, not, if◌then◌else◌, List, Option, Some, None, ℤ}
use Rattle.std.specs.Int.RustNames.{int_lt, int_le}
use Rattle.rv32i_core.specs.Word.{sign_extended}
use Rattle.rv32i_core.specs.Listing.{instruction_of}
use Rattle.rv32i_core.specs.Registers.{register_of, with_register, following}
use Rattle.rv32i_core.specs.Bytes.{is_inside, byte_at, halfword_at, word_at, with_byte, with_halfword, with_word}
use Rattle.rv32i_core.specs.Integers.{signed, unsigned, sum, immediate_result, operation_result}
use Rattle.rv32i_core.specs.declared.registers.Cpu.{Cpu}
use Rattle.rv32i_core.specs.declared.execution.Outcome.{Outcome}
use Rattle.rv32i_core.specs.declared.execution.Outcome.TheVariants.{Next, Exit, Spawn, Exception}
use Rattle.rv32i_core.specs.declared.instructions.Instruction.{Instruction}
use Rattle.rv32i_core.specs.declared.instructions.Instruction.TheVariants.{Lui, Auipc, Jal, Jalr, Load, ImmOp, Branch, Store, Op, Fence, Ecall, Ebreak}
use Rattle.rv32i_core.specs.declared.instructions.LoadKind.{LoadKind}
use Rattle.rv32i_core.specs.declared.instructions.LoadKind.TheVariants.{Lb, Lh, Lw, Lbu, Lhu}
use Rattle.rv32i_core.specs.declared.instructions.StoreKind.{StoreKind}
use Rattle.rv32i_core.specs.declared.instructions.StoreKind.TheVariants.{Sb, Sh, Sw}
use Rattle.rv32i_core.specs.declared.instructions.BranchKind.{BranchKind}
use Rattle.rv32i_core.specs.declared.instructions.BranchKind.TheVariants.{Beq, Bne, Blt, Bge, Bltu, Bgeu}

-- what an instruction comes to: the processor and memory after it, the end of the program with its status, a thread that
-- is asked for with its first address and its argument, or an exception, which changes nothing
pub data Step : Type 0 where
  goes_on : Cpu → List ℕ → Step
  ends : ℤ → Step
  spawns : (entry argument : ℕ) → Step
  excepts : Step

-- on to the instruction that follows
abbrev pub next_step : Cpu → List ℕ → Step
next_step cpu memory = goes_on (record cpu { pc = following cpu }) memory

-- ---- integer computation (2.4)

-- a number goes into rd
abbrev pub result_step : ℕ → ℕ → Cpu → List ℕ → Step
result_step rd value cpu memory = goes_on (record (with_register rd value cpu) { pc = following cpu }) memory

-- ---- control transfer (2.5)

-- on to an address, which has to be a multiple of 4
abbrev pub jump_step : ℕ → Cpu → List ℕ → Step
jump_step target cpu memory = if target % 4 == 0 then goes_on (record cpu { pc = target }) memory else excepts

-- a jump that leaves the address of the instruction that follows in rd
abbrev pub link_step : ℕ → ℕ → Cpu → List ℕ → Step
link_step rd target cpu memory = jump_step target (with_register rd (following cpu) cpu) memory

abbrev pub is_taken : BranchKind → ℕ → ℕ → Bool
is_taken Beq a b = a == b
is_taken Bne a b = not (a == b)
is_taken Blt a b = int_lt (signed a) (signed b)
is_taken Bge a b = int_le (signed b) (signed a)
is_taken Bltu a b = nat_lt a b
is_taken Bgeu a b = nat_le b a

-- ---- loads and stores (2.6)

-- the number at a place; none where a byte of it lies outside memory
abbrev pub loaded : LoadKind → ℕ → List ℕ → Option ℕ
loaded Lb place memory = if is_inside 1 place then Some (unsigned (sign_extended 8 (byte_at memory place))) else None
loaded Lh place memory = if is_inside 2 place then Some (unsigned (sign_extended 16 (halfword_at memory place))) else None
loaded Lw place memory = if is_inside 4 place then Some (word_at memory place) else None
loaded Lbu place memory = if is_inside 1 place then Some (byte_at memory place) else None
loaded Lhu place memory = if is_inside 2 place then Some (halfword_at memory place) else None

-- memory with a number put at a place; none where a byte of it lies outside
abbrev pub stored : StoreKind → ℕ → ℕ → List ℕ → Option (List ℕ)
stored Sb place n memory = if is_inside 1 place then Some (with_byte place n memory) else None
stored Sh place n memory = if is_inside 2 place then Some (with_halfword place n memory) else None
stored Sw place n memory = if is_inside 4 place then Some (with_word place n memory) else None

abbrev pub load_step : ℕ → Option ℕ → Cpu → List ℕ → Step
load_step rd (Some value) cpu memory = result_step rd value cpu memory
load_step rd None cpu memory = excepts

abbrev pub store_step : Option (List ℕ) → Cpu → Step
store_step (Some memory) cpu = next_step cpu memory
store_step None cpu = excepts

-- ---- environment call (2.8)

-- x17 says what is asked for: 93 is the end of the program with the status in x10, 1000 is a thread that begins at the
-- address in x10 with the argument in x11, and nothing else is known here
abbrev pub call_step : Cpu → Step
call_step cpu =
    if register_of 17 cpu == 93 then ends (signed (register_of 10 cpu))
    else if register_of 17 cpu == 1000 then spawns (register_of 10 cpu) (register_of 11 cpu)
    else excepts

-- ---- each instruction, in the manual's order

abbrev pub effect : Instruction → Cpu → List ℕ → Step
effect (ImmOp kind rd rs1 imm) cpu memory = result_step rd (immediate_result kind (register_of rs1 cpu) imm) cpu memory
effect (Lui rd imm) cpu memory = result_step rd (unsigned imm) cpu memory
effect (Auipc rd imm) cpu memory = result_step rd (sum cpu.pc (unsigned imm)) cpu memory
effect (Op kind rd rs1 rs2) cpu memory =
    result_step rd (operation_result kind (register_of rs1 cpu) (register_of rs2 cpu)) cpu memory
effect (Jal rd imm) cpu memory = link_step rd (sum cpu.pc (unsigned imm)) cpu memory
-- bit 0 of the sum is cleared
effect (Jalr rd rs1 imm) cpu memory =
    let target = sum (register_of rs1 cpu) (unsigned imm) in link_step rd (target - target % 2) cpu memory
effect (Branch kind rs1 rs2 imm) cpu memory =
    if is_taken kind (register_of rs1 cpu) (register_of rs2 cpu)
    then jump_step (sum cpu.pc (unsigned imm)) cpu memory
    else next_step cpu memory
effect (Load kind rd rs1 imm) cpu memory =
    load_step rd (loaded kind (sum (register_of rs1 cpu) (unsigned imm)) memory) cpu memory
effect (Store kind rs1 rs2 imm) cpu memory =
    store_step (stored kind (sum (register_of rs1 cpu) (unsigned imm)) (register_of rs2 cpu) memory) cpu
effect Fence cpu memory = next_step cpu memory
effect Ecall cpu memory = call_step cpu
effect Ebreak cpu memory = excepts

-- ---- the machine

-- no instruction: an exception
abbrev pub decoded_step : Option Instruction → Cpu → List ℕ → Step
decoded_step (Some instruction) cpu memory = effect instruction cpu memory
decoded_step None cpu memory = excepts

-- the word at pc, whose four bytes have to lie in memory, and what it says
unfoldable pub machine : Cpu → List ℕ → Step
machine cpu memory =
    if is_inside 4 cpu.pc then decoded_step (instruction_of (word_at memory cpu.pc)) cpu memory else excepts

-- the step that an outcome tells of, with the processor and memory as a call left them
abbrev pub step_of : Outcome → Cpu → List ℕ → Step
step_of Next cpu memory = goes_on cpu memory
step_of (Exit status) cpu memory = ends status
step_of (Spawn entry argument) cpu memory = spawns entry argument
step_of Exception cpu memory = excepts
