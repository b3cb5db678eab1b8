-- A process as contracts see it.
use Rattle.std.specs.Prelude.{ℕ, Bool, List}
use Rattle.target_contexts.specs.declared.threads.Thread.{Thread}

-- the name of its image, whether the debugger is attached to it, its threads in the order of their numbers, and its
-- memory
pub record ProcessValue : Type 0 where
  pub name : List ℕ
  pub attached : Bool
  pub threads : List Thread
  pub memory : List ℕ
