-- The laws of what a process begins with.
use Rattle.std.specs.Prelude.{◌≡◌, Bool, None, replicate}
use Rattle.std.specs.List.{AllByRecursion}
use Rattle.elf_image.specs.Fault.{fault_of}
use Rattle.elf_image.specs.Header.{IsElf}
use Rattle.elf_image.specs.Image.{Loads}
use Rattle.rv32i_core.specs.Bytes.{image_memory}
use Rattle.target_contexts.specs.Starting.{new_process}
use Rattle.target_contexts.specs.declared.process.Image.{Image}

-- the threads of a process that is started from an ELF file without a fault, of which there is one, begin at the entry, in
-- the memory that the file is loaded with
abbrev pub FileIsLoaded : Type 0
FileIsLoaded = (attach : Bool) (image : Image) → IsElf image.bytes → fault_of image.bytes ≡ None →
    let process = new_process attach image in AllByRecursion (λ thread. Loads image.bytes thread.cpu.pc process.memory) process.threads

-- every other image stands in memory from the address 0 on, and the threads of the process begin there
abbrev pub OthersStandAtZero : Type 0
OthersStandAtZero = (attach : Bool) (image : Image) → ¬ IsElf image.bytes →
    let process = new_process attach image in
    AllByRecursion (λ thread. thread.cpu.pc ≡ 0) process.threads × (process.memory ≡ image_memory image.bytes)

-- whatever the image, all registers are 0
abbrev pub RegistersAreZero : Type 0
RegistersAreZero = (attach : Bool) (image : Image) → AllByRecursion (λ thread. thread.cpu.x ≡ replicate 32 0) (new_process attach image).threads
