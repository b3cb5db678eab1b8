-- The commands that are pending above, by lower channel, as contracts see them.
use Rattle.std.specs.Prelude.{ℕ, List, Option}
use Rattle.hub_node.specs.WaitingValue.{WaitingValue}

pub record BoardValue : Type 0 where
  -- a list for each lower channel that is live, and lists that are free
  pub lists : List (List (ℕ × WaitingValue))
  -- whose they are
  pub owners : List (Option ℕ)
