-- The code with which the machine ends is a signed number of 32 bits.
use Rattle.std.proofs.Common.{◌≡◌, ℕ, pos, negsuc, suc, ◌-◌, ◌%◌, ◌^◌, ◌≤◌, ◌==◌, ltb, Bool, true, false, cond, List, Option, Some, None, refl, arith}
use Rattle.std.proofs.lemmas.Bool.{cond_both, ltb-false, ltb-true}
use Rattle.rv32i_core.specs.Bytes.{is_inside, word_at}
use Rattle.rv32i_core.specs.Integers.{signed, sum, unsigned}
use Rattle.rv32i_core.specs.Laws.{EndsSigned, IsSigned}
use Rattle.rv32i_core.specs.Listing.{instruction_of}
use Rattle.rv32i_core.specs.Machine.{goes_on, ends, excepts, spawns, decoded_step, effect, is_taken, jump_step, load_step, loaded, machine, next_step, store_step, stored}
use Rattle.rv32i_core.specs.Registers.{following, register_of, with_register}
use Rattle.rv32i_core.specs.declared.instructions.Instruction.{Instruction}
use Rattle.rv32i_core.specs.declared.instructions.Instruction.TheVariants.{Lui, Auipc, Jal, Jalr, Load, ImmOp, Branch, Store, Op, Fence, Ecall, Ebreak}
use Rattle.rv32i_core.specs.declared.registers.Cpu.{Cpu}

number_by : (small : Bool) (n : ℕ) → ltb n (2 ^ 31) ≡ small → IsSigned (cond small (pos n) (negsuc (2 ^ 32 - suc n)))
number_by true n is = ltb-true n (2 ^ 31) is
number_by false n is = let high : 2 ^ 31 ≤ n = ltb-false n (2 ^ 31) is in omega arith

number_signed : (n : ℕ) → IsSigned (signed n)
number_signed n = number_by (ltb n (2 ^ 31)) n refl

load_signed : (rd : ℕ) (value : Option ℕ) (cpu : Cpu) (memory : List ℕ) → EndsSigned (load_step rd value cpu memory)
load_signed rd None cpu memory = tt
load_signed rd (Some value) cpu memory = tt

store_signed : (stored : Option (List ℕ)) (cpu : Cpu) → EndsSigned (store_step stored cpu)
store_signed None cpu = tt
store_signed (Some memory) cpu = tt

jump_signed : (target : ℕ) (cpu : Cpu) (memory : List ℕ) → EndsSigned (jump_step target cpu memory)
jump_signed target cpu memory = cond_both (target % 4 == 0) (goes_on (record cpu { pc = target }) memory) excepts EndsSigned (λ is. tt) (λ isnt. tt)

effect_signed : (instruction : Instruction) (cpu : Cpu) (memory : List ℕ) → EndsSigned (effect instruction cpu memory)
effect_signed (ImmOp kind rd rs1 imm) cpu memory = tt
effect_signed (Lui rd imm) cpu memory = tt
effect_signed (Auipc rd imm) cpu memory = tt
effect_signed (Op kind rd rs1 rs2) cpu memory = tt
effect_signed (Jal rd imm) cpu memory = jump_signed (sum cpu.pc (unsigned imm)) (with_register rd (following cpu) cpu) memory
effect_signed (Jalr rd rs1 imm) cpu memory =
    let target = sum (register_of rs1 cpu) (unsigned imm) in jump_signed (target - target % 2) (with_register rd (following cpu) cpu) memory
effect_signed (Branch kind rs1 rs2 imm) cpu memory =
    let target = sum cpu.pc (unsigned imm) in
    cond_both (is_taken kind (register_of rs1 cpu) (register_of rs2 cpu)) (jump_step target cpu memory) (next_step cpu memory) EndsSigned (λ is. jump_signed target cpu memory) (λ isnt. tt)
effect_signed (Load kind rd rs1 imm) cpu memory = load_signed rd (loaded kind (sum (register_of rs1 cpu) (unsigned imm)) memory) cpu memory
effect_signed (Store kind rs1 rs2 imm) cpu memory = store_signed (stored kind (sum (register_of rs1 cpu) (unsigned imm)) (register_of rs2 cpu) memory) cpu
effect_signed Fence cpu memory = tt
effect_signed Ecall cpu memory =
    cond_both (register_of 17 cpu == 93) (ends (signed (register_of 10 cpu))) (cond (register_of 17 cpu == 1000) (spawns (register_of 10 cpu) (register_of 11 cpu)) excepts) EndsSigned
    (λ is. number_signed (register_of 10 cpu))
    (λ isnt. cond_both (register_of 17 cpu == 1000) (spawns (register_of 10 cpu) (register_of 11 cpu)) excepts EndsSigned (λ is. tt) (λ none. tt))
effect_signed Ebreak cpu memory = tt

decoded_signed : (instruction : Option Instruction) (cpu : Cpu) (memory : List ℕ) → EndsSigned (decoded_step instruction cpu memory)
decoded_signed None cpu memory = tt
decoded_signed (Some instruction) cpu memory = effect_signed instruction cpu memory

pub machine_signed : (cpu : Cpu) (memory : List ℕ) → EndsSigned (machine cpu memory)
unfolding machine
machine_signed cpu memory =
    let instruction = instruction_of (word_at memory cpu.pc) in
    cond_both (is_inside 4 cpu.pc) (decoded_step instruction cpu memory) excepts EndsSigned (λ is. decoded_signed instruction cpu memory) (λ isnt. tt)
