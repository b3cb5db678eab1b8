-- Files and a sink in memory, as contracts see them.
use Rattle.std.specs.Prelude.{ℕ, List}
use Rattle.tcf_outside.specs.declared.files.HeldFile.{HeldFile}

-- files in memory: what they hold, the names read so far, the numbers of the reads that fail, and the faults
pub record MemoryFilesValue : Type 0 where
  pub files : List HeldFile
  pub names : List (List ℕ)
  pub failing : List ℕ
  pub faults : ℕ

-- a sink in memory: the bytes it took, the numbers of the puts that fail, the puts so far, the most bytes that
-- one put takes, and the faults
pub record MemorySinkValue : Type 0 where
  pub told : List ℕ
  pub failing : List ℕ
  pub puts : ℕ
  pub most : ℕ
  pub faults : ℕ
