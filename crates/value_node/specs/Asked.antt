-- A command that a peer asks.
use Rattle.std.specs.Prelude.{ℕ, List, Option}

-- a command as it was taken
pub record Asked : Type 0 where
  pub token : List ℕ
  pub service : List ℕ
  pub name : List ℕ
  pub body : List ℕ
  pub mark : Option ℕ
