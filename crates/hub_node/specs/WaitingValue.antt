-- What is kept of a command that was sent above, as contracts see it.
use Rattle.std.specs.Prelude.{ℕ, List}

pub record WaitingValue : Type 0 where
  pub serial : ℕ  -- its number among all commands that were sent above, which is its token there
  pub channel : ℕ  -- the lower channel that it is of
  pub token : List ℕ  -- its token there
