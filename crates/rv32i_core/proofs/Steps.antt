-- The machine keeps its numbers below 2^32 and its bytes below 256, and memory its size.
use Rattle.std.proofs.Common.{ℕ, zero, suc, ◌+◌, ◌-◌, ◌/◌, ◌%◌, ◌^◌, ◌<◌, ◌==◌, Bool, true, false, cond, List, [], ◌∷◌, ℤ, replicate, slice_index, slice_set, Option, Some, None, IfSome, ◌∙◌, arith}
use Rattle.std.specs.List.{AllByRecursion}
use Rattle.std.proofs.Math.ListN.{length-set}
use Rattle.std.proofs.lemmas.List.{length-replicate}
use Rattle.std.proofs.lemmas.List.Elements.{All-replicate, recursion_from_All}
use Rattle.std.proofs.lemmas.Nat.{mod_below}
use Rattle.std.proofs.Math.Dec.{lit<}
use Rattle.rv32i_core.specs.Bytes.{byte_at, halfword_at, is_inside, with_byte, with_halfword, with_word, word_at}
use Rattle.rv32i_core.specs.Laws.{IsCpu, IsMemory, IsWord, LeavesWhole}
use Rattle.rv32i_core.specs.Listing.{instruction_of}
use Rattle.rv32i_core.specs.Machine.{decoded_step, effect, ends, excepts, goes_on, is_taken, jump_step, load_step, loaded, machine, next_step, spawns, store_step, stored}
use Rattle.rv32i_core.specs.Registers.{answered, begun, following, register_of, with_register}
use Rattle.rv32i_core.specs.declared.instructions.Instruction.{Instruction}
use Rattle.rv32i_core.specs.declared.instructions.Instruction.TheVariants.{Lui, Auipc, Jal, Jalr, Load, ImmOp, Branch, Store, Op, Fence, Ecall, Ebreak}
use Rattle.rv32i_core.specs.declared.instructions.LoadKind.{LoadKind}
use Rattle.rv32i_core.specs.declared.instructions.LoadKind.TheVariants.{Lb, Lh, Lw, Lbu, Lhu}
use Rattle.rv32i_core.specs.declared.instructions.StoreKind.{StoreKind}
use Rattle.rv32i_core.specs.declared.instructions.StoreKind.TheVariants.{Sb, Sh, Sw}
use Rattle.rv32i_core.specs.declared.registers.Cpu.{Cpu}
use Rattle.rv32i_core.proofs.Immediates.{HasWord, word_given}
use Rattle.rv32i_core.proofs.Words.{AreBytes, byte_below, extended_below, halfword_below, immediate_below, number_below, operation_below, rest_below, word_below}

-- ---- registers

words_set : (numbers : List ℕ) (place value : ℕ) → AllByRecursion IsWord numbers → IsWord value → AllByRecursion IsWord (slice_set numbers place value)
words_set [] place value are is = tt
words_set (number ∷ numbers) zero value are is = (is, are.1)
words_set (number ∷ numbers) (suc place) value are is = (are.0, words_set numbers place value are.1 is)

read_by : (is_zero : Bool) (n : ℕ) (cpu : Cpu) → IsCpu cpu → IsWord (cond is_zero 0 (slice_index cpu.x n))
read_by true n cpu is = omega arith
read_by false n cpu is = number_below cpu.x n is.registers

pub read_below : (n : ℕ) (cpu : Cpu) → IsCpu cpu → IsWord (register_of n cpu)
read_below n cpu is = read_by (n == 0) n cpu is

written_by : (is_zero : Bool) (n value : ℕ) (cpu : Cpu) → IsCpu cpu → IsWord value → IsCpu (cond is_zero cpu (record cpu { x = slice_set cpu.x n value }))
written_by true n value cpu is below = is
written_by false n value cpu is below = record {
  pc = is.pc;
  count = length-set cpu.x n value ∙ is.count;
  registers = words_set cpu.x n value is.registers below;
}

pub written_whole : (n value : ℕ) (cpu : Cpu) → IsCpu cpu → IsWord value → IsCpu (with_register n value cpu)
written_whole n value cpu is below = written_by (n == 0) n value cpu is below

pub moved_whole : (pc : ℕ) (cpu : Cpu) → IsCpu cpu → IsWord pc → IsCpu (record cpu { pc = pc })
moved_whole pc cpu is below = record { pc = below; count = is.count; registers = is.registers }

pub answered_whole : (number : ℕ) (cpu : Cpu) → IsCpu cpu → IsWord number → IsCpu (answered number cpu)
answered_whole number cpu is below = moved_whole (following cpu) (with_register 10 number cpu) (written_whole 10 number cpu is below) (rest_below (cpu.pc + 4))

zeros_words : AllByRecursion IsWord (replicate 32 0)
zeros_words = recursion_from_All IsWord (replicate 32 0) (All-replicate IsWord 32 0 (omega arith))

pub begun_whole : (entry argument : ℕ) → IsWord entry → IsWord argument → IsCpu (begun entry argument)
begun_whole entry argument first second =
    written_whole 10 argument (record { pc = entry; x = replicate 32 0 })
    (record { pc = first; count = length-replicate {A = ℕ} 32 0; registers = zeros_words }) second

-- ---- memory

bytes_set : (bytes : List ℕ) (place value : ℕ) → AreBytes bytes → value < 256 → AreBytes (slice_set bytes place value)
bytes_set [] place value are is = tt
bytes_set (byte ∷ bytes) zero value are is = (is, are.1)
bytes_set (byte ∷ bytes) (suc place) value are is = (are.0, bytes_set bytes place value are.1 is)

byte_whole : (place n : ℕ) (memory : List ℕ) → IsMemory memory → IsMemory (with_byte place n memory)
byte_whole place n memory is = record {
  size = length-set memory place (n % 2 ^ 8) ∙ is.size;
  bytes = bytes_set memory place (n % 2 ^ 8) is.bytes (mod_below n (2 ^ 8) (lit< tt));
}

halfword_whole : (place n : ℕ) (memory : List ℕ) → IsMemory memory → IsMemory (with_halfword place n memory)
halfword_whole place n memory is = byte_whole (place + 1) (n / 2 ^ 8) (with_byte place n memory) (byte_whole place n memory is)

word_whole : (place n : ℕ) (memory : List ℕ) → IsMemory memory → IsMemory (with_word place n memory)
word_whole place n memory is = halfword_whole (place + 2) (n / 2 ^ 16) (with_halfword place n memory) (halfword_whole place n memory is)

-- ---- steps

next_whole : (cpu : Cpu) (memory : List ℕ) → IsCpu cpu → IsMemory memory → LeavesWhole (next_step cpu memory)
next_whole cpu memory is also = (moved_whole (following cpu) cpu is (rest_below (cpu.pc + 4)), also)

result_whole : (rd value : ℕ) (cpu : Cpu) (memory : List ℕ) → IsCpu cpu → IsMemory memory → IsWord value
    → LeavesWhole (goes_on (record (with_register rd value cpu) { pc = following cpu }) memory)
result_whole rd value cpu memory is also below = (moved_whole (following cpu) (with_register rd value cpu) (written_whole rd value cpu is below) (rest_below (cpu.pc + 4)), also)

jump_by : (is_fit : Bool) (target : ℕ) (cpu : Cpu) (memory : List ℕ) → IsCpu cpu → IsMemory memory → IsWord target
    → LeavesWhole (cond is_fit (goes_on (record cpu { pc = target }) memory) excepts)
jump_by true target cpu memory is also below = (moved_whole target cpu is below, also)
jump_by false target cpu memory is also below = tt

jump_whole : (target : ℕ) (cpu : Cpu) (memory : List ℕ) → IsCpu cpu → IsMemory memory → IsWord target → LeavesWhole (jump_step target cpu memory)
jump_whole target cpu memory is also below = jump_by (target % 4 == 0) target cpu memory is also below

link_whole : (rd target : ℕ) (cpu : Cpu) (memory : List ℕ) → IsCpu cpu → IsMemory memory → IsWord target → LeavesWhole (jump_step target (with_register rd (following cpu) cpu) memory)
link_whole rd target cpu memory is also below =
    jump_whole target (with_register rd (following cpu) cpu) memory (written_whole rd (following cpu) cpu is (rest_below (cpu.pc + 4))) also below

branch_by : (takes : Bool) (target : ℕ) (cpu : Cpu) (memory : List ℕ) → IsCpu cpu → IsMemory memory → IsWord target
    → LeavesWhole (cond takes (jump_step target cpu memory) (next_step cpu memory))
branch_by true target cpu memory is also below = jump_whole target cpu memory is also below
branch_by false target cpu memory is also below = next_whole cpu memory is also

-- ---- loads and stores

value_by : (is_there : Bool) (value : ℕ) → IsWord value → IfSome (cond is_there (Some value) None) IsWord
value_by true value below = below
value_by false value below = tt

loaded_below : (kind : LoadKind) (place : ℕ) (memory : List ℕ) → AreBytes memory → IfSome (loaded kind place memory) IsWord
loaded_below Lb place memory are = value_by (is_inside 1 place) _ (extended_below 8 (byte_at memory place) (omega (arith, byte_below memory place are)))
loaded_below Lh place memory are = value_by (is_inside 2 place) _ (extended_below 16 (halfword_at memory place) (omega (arith, halfword_below memory place are)))
loaded_below Lw place memory are = value_by (is_inside 4 place) _ (word_below memory place are)
loaded_below Lbu place memory are = value_by (is_inside 1 place) _ (omega (arith, byte_below memory place are))
loaded_below Lhu place memory are = value_by (is_inside 2 place) _ (omega (arith, halfword_below memory place are))

load_by : (found : Option ℕ) (rd : ℕ) (cpu : Cpu) (memory : List ℕ) → IsCpu cpu → IsMemory memory → IfSome found IsWord → LeavesWhole (load_step rd found cpu memory)
load_by None rd cpu memory is also below = tt
load_by (Some value) rd cpu memory is also below = result_whole rd value cpu memory is also below

memory_by : (is_there : Bool) (memory : List ℕ) → IsMemory memory → IfSome (cond is_there (Some memory) None) IsMemory
memory_by true memory is = is
memory_by false memory is = tt

stored_whole : (kind : StoreKind) (place n : ℕ) (memory : List ℕ) → IsMemory memory → IfSome (stored kind place n memory) IsMemory
stored_whole Sb place n memory is = memory_by (is_inside 1 place) _ (byte_whole place n memory is)
stored_whole Sh place n memory is = memory_by (is_inside 2 place) _ (halfword_whole place n memory is)
stored_whole Sw place n memory is = memory_by (is_inside 4 place) _ (word_whole place n memory is)

store_by : (left : Option (List ℕ)) (cpu : Cpu) → IsCpu cpu → IfSome left IsMemory → LeavesWhole (store_step left cpu)
store_by None cpu is also = tt
store_by (Some memory) cpu is also = next_whole cpu memory is also

-- ---- each instruction

call_by : (ends_it spawns_it : Bool) (code : ℤ) (entry argument : ℕ) → IsWord entry → IsWord argument
    → LeavesWhole (cond ends_it (ends code) (cond spawns_it (spawns entry argument) excepts))
call_by true spawns_it code entry argument first second = tt
call_by false true code entry argument first second = (first, second)
call_by false false code entry argument first second = tt

even_below : (n : ℕ) → IsWord n → IsWord (n - n % 2)
even_below n below = omega arith

effect_whole : (instruction : Instruction) (cpu : Cpu) (memory : List ℕ) → IsCpu cpu → IsMemory memory → HasWord instruction → LeavesWhole (effect instruction cpu memory)
effect_whole (ImmOp kind rd rs1 imm) cpu memory is also has =
    result_whole rd _ cpu memory is also (immediate_below kind (register_of rs1 cpu) imm (read_below rs1 cpu is) has)
effect_whole (Lui rd imm) cpu memory is also has = result_whole rd _ cpu memory is also has
effect_whole (Auipc rd imm) cpu memory is also has = result_whole rd _ cpu memory is also (rest_below _)
effect_whole (Op kind rd rs1 rs2) cpu memory is also has =
    result_whole rd _ cpu memory is also (operation_below kind (register_of rs1 cpu) (register_of rs2 cpu) (read_below rs1 cpu is) (read_below rs2 cpu is))
effect_whole (Jal rd imm) cpu memory is also has = link_whole rd _ cpu memory is also (rest_below _)
effect_whole (Jalr rd rs1 imm) cpu memory is also has = link_whole rd _ cpu memory is also (even_below _ (rest_below _))
effect_whole (Branch kind rs1 rs2 imm) cpu memory is also has =
    branch_by (is_taken kind (register_of rs1 cpu) (register_of rs2 cpu)) _ cpu memory is also (rest_below _)
effect_whole (Load kind rd rs1 imm) cpu memory is also has = load_by _ rd cpu memory is also (loaded_below kind _ memory also.bytes)
effect_whole (Store kind rs1 rs2 imm) cpu memory is also has = store_by _ cpu is (stored_whole kind _ _ memory also)
effect_whole Fence cpu memory is also has = next_whole cpu memory is also
effect_whole Ecall cpu memory is also has =
    call_by (register_of 17 cpu == 93) (register_of 17 cpu == 1000) _ (register_of 10 cpu) (register_of 11 cpu) (read_below 10 cpu is) (read_below 11 cpu is)
effect_whole Ebreak cpu memory is also has = tt

decoded_whole : (instruction : Option Instruction) (cpu : Cpu) (memory : List ℕ) → IsCpu cpu → IsMemory memory → IfSome instruction HasWord → LeavesWhole (decoded_step instruction cpu memory)
decoded_whole None cpu memory is also has = tt
decoded_whole (Some instruction) cpu memory is also has = effect_whole instruction cpu memory is also has

machine_by : (is_there : Bool) (cpu : Cpu) (memory : List ℕ) → IsCpu cpu → IsMemory memory
    → LeavesWhole (cond is_there (decoded_step (instruction_of (word_at memory cpu.pc)) cpu memory) excepts)
machine_by true cpu memory is also = decoded_whole (instruction_of (word_at memory cpu.pc)) cpu memory is also (word_given (word_at memory cpu.pc))
machine_by false cpu memory is also = tt

pub machine_whole : (cpu : Cpu) (memory : List ℕ) → IsCpu cpu → IsMemory memory → LeavesWhole (machine cpu memory)
unfolding machine
machine_whole cpu memory is_cpu is_memory = machine_by (is_inside 4 cpu.pc) cpu memory is_cpu is_memory
