-- The registers of one processor: pc, and x0 to x31 as a list of 32 numbers below 2 ^ 32.
-- The RISC-V Instruction Set Manual, volume I: Unprivileged ISA, version 20191213: "Programmers' Model for Base Integer
-- ISA" (2.1).
use Rattle.std.specs.Prelude.{ℕ, ◌+◌, ◌%◌, ◌^◌, ◌==◌, if◌then◌else◌, replicate, slice_index, slice_set}
use Rattle.rv32i_core.specs.declared.registers.Cpu.{Cpu}

-- what an instruction reads from a register: from x0 always 0
abbrev pub register_of : ℕ → Cpu → ℕ
register_of n cpu = if n == 0 then 0 else slice_index cpu.x n

-- a number put into a register: x0 stays as it is
abbrev pub with_register : ℕ → ℕ → Cpu → Cpu
with_register n value cpu = if n == 0 then cpu else record cpu { x = slice_set cpu.x n value }

-- the address of the instruction that follows in memory, four bytes on, wrapped
abbrev pub following : Cpu → ℕ
following cpu = (cpu.pc + 4) % 2 ^ 32

-- a number given to a call of the environment as its result, in x10; the instruction that follows comes next
abbrev pub answered : ℕ → Cpu → Cpu
answered number cpu = record (with_register 10 number cpu) { pc = following cpu }

-- a processor that begins at an address with an argument in x10; all other registers are 0
abbrev pub begun : ℕ → ℕ → Cpu
begun entry argument = with_register 10 argument (record { pc = entry; x = replicate 32 0 })
