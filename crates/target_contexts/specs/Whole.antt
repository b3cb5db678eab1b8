-- Whole processes, whose numbers and bytes are such as the machine has them: the law that a start makes one.
use Rattle.std.specs.Prelude.{ℕ, ◌≡◌, ◌<◌, Bool, [], ◌∷◌, None}
use Rattle.std.specs.List.{AllByRecursion}
use Rattle.rv32i_core.specs.Laws.{IsCpu, IsMemory, IsWord}
use Rattle.target_contexts.specs.Loading.{entry_in}
use Rattle.target_contexts.specs.Spawning.{with_begun}
use Rattle.target_contexts.specs.Starting.{bytes_refusal, first_thread, new_process}
use Rattle.target_contexts.specs.declared.process.Image.{Image}
use Rattle.target_contexts.specs.ProcessValue.{ProcessValue}

-- the processor of each thread has 32 registers and a pc of 32 bits each, and the memory 65,536 bytes
pub record IsWhole (process : ProcessValue) : Type 0 where
  pub cpus : AllByRecursion (λ thread. IsCpu thread.cpu) process.threads
  pub memory : IsMemory process.memory

-- from an image whose bytes, each below 256, are not refused: from an ELF file without a fault, and else from at most
-- 65,536 bytes
abbrev pub StartIsWhole : Type 0
StartIsWhole = (attach : Bool) (image : Image) → AllByRecursion (λ byte. byte < 256) image.bytes →
    bytes_refusal image.bytes ≡ None → IsWhole (new_process attach image)

-- it has one thread, which is suspended where it is attached, and else runs
abbrev pub StartStands : Type 0
StartStands = (attach : Bool) (image : Image) → (new_process attach image).threads ≡ first_thread attach (entry_in image.bytes) ∷ []

-- a thread that begins with numbers of 32 bits leaves the process whole
abbrev pub BeginStaysWhole : Type 0
BeginStaysWhole = (pc argument : ℕ) (process : ProcessValue) → IsWord pc → IsWord argument → IsWhole process → IsWhole (with_begun pc argument process)
