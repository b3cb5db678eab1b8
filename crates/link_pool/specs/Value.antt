-- What contracts see of a pool of linked lists.
use Rattle.std.specs.Prelude.{ℕ, List}

pub record PoolValue (T : Type 0) : Type 0 where
  -- each list: its rows in order, a row being the key of an item and the item
  pub lists : List (List (ℕ × T))
  -- how many more items it takes with no more memory
  pub room : ℕ
