-- The processes of a target as contracts see them.
use Rattle.std.specs.Prelude.{ℕ, List}
use Rattle.target_contexts.specs.declared.process.Image.{Image}
use Rattle.target_contexts.specs.ProcessValue.{ProcessValue}

-- the images, the live processes beside their numbers in the order of these, and the number that the next one gets
pub record TargetsValue : Type 0 where
  pub images : List Image
  pub processes : List (ℕ × ProcessValue)
  pub next : ℕ
