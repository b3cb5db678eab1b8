-- The laws of the machine: its numbers stay below 2^32 and its bytes below 256, its memory keeps its size, a program ends
-- with a signed number of 32 bits, and a thread begins with numbers of 32 bits.
-- The RISC-V Instruction Set Manual, volume I: Unprivileged ISA, version 20191213: "Programmers' Model for Base Integer
-- ISA" (2.1) and "Memory" (1.4).
use Rattle.std.specs.Prelude.{ℕ, ◌≡◌, ◌^◌, ◌<◌, List, length, ℤ, pos, negsuc}
use Rattle.std.specs.List.{AllByRecursion}
use Rattle.rv32i_core.specs.Machine.{Step, ends, excepts, goes_on, machine, spawns}
use Rattle.rv32i_core.specs.Registers.{answered, begun, register_of, with_register}
use Rattle.rv32i_core.specs.declared.registers.Cpu.{Cpu}

-- ---- numbers, processors and memory

abbrev pub IsWord : ℕ → Type 0
IsWord number = number < 2 ^ 32

-- a signed number of 32 bits, from -2^31 to 2^31 - 1
abbrev pub IsSigned : ℤ → Type 0
IsSigned (pos n) = n < 2 ^ 31
IsSigned (negsuc n) = n < 2 ^ 31

-- 32 registers and a pc, each of 32 bits
pub record IsCpu (cpu : Cpu) : Type 0 where
  pub pc : IsWord cpu.pc
  pub count : length cpu.x ≡ 32
  pub registers : AllByRecursion IsWord cpu.x

-- 65,536 bytes
pub record IsMemory (memory : List ℕ) : Type 0 where
  pub size : length memory ≡ 65536
  pub bytes : AllByRecursion (λ byte. byte < 256) memory

-- ---- what an instruction comes to

-- where it goes on, it leaves a processor and memory, and where it asks for a thread, it does with numbers of 32 bits
abbrev pub LeavesWhole : Step → Type 0
LeavesWhole (goes_on cpu memory) = IsCpu cpu × IsMemory memory
LeavesWhole (ends code) = Unit {0}
LeavesWhole (spawns entry argument) = IsWord entry × IsWord argument
LeavesWhole excepts = Unit {0}

-- where it ends the program, it does with a signed number of 32 bits
abbrev pub EndsSigned : Step → Type 0
EndsSigned (goes_on cpu memory) = Unit {0}
EndsSigned (ends code) = IsSigned code
EndsSigned (spawns entry argument) = Unit {0}
EndsSigned excepts = Unit {0}

-- ---- the laws

-- from a processor and memory the machine comes to such ones
abbrev pub StepsStayWithin : Type 0
StepsStayWithin = (cpu : Cpu) (memory : List ℕ) → IsCpu cpu → IsMemory memory → LeavesWhole (machine cpu memory)

-- whatever stood in its registers and its memory
abbrev pub EndsAreSigned : Type 0
EndsAreSigned = (cpu : Cpu) (memory : List ℕ) → EndsSigned (machine cpu memory)

-- an instruction reads numbers of 32 bits
abbrev pub ReadsAreWords : Type 0
ReadsAreWords = (n : ℕ) (cpu : Cpu) → IsCpu cpu → IsWord (register_of n cpu)

-- a number of 32 bits put into a register leaves a processor
abbrev pub WritesStayWithin : Type 0
WritesStayWithin = (n value : ℕ) (cpu : Cpu) → IsCpu cpu → IsWord value → IsCpu (with_register n value cpu)

-- so does the result of a call of the environment
abbrev pub ResultsStayWithin : Type 0
ResultsStayWithin = (number : ℕ) (cpu : Cpu) → IsCpu cpu → IsWord number → IsCpu (answered number cpu)

-- from numbers of 32 bits a processor begins
abbrev pub BeginningsAreWithin : Type 0
BeginningsAreWithin = (entry argument : ℕ) → IsWord entry → IsWord argument → IsCpu (begun entry argument)
