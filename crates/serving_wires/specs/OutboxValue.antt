-- What waits to be put on a wire, as contracts see it.
use Rattle.std.specs.Prelude.{ℕ, Bool, List}

-- what is to be put on a wire
pub record OutboxValue : Type 0 where
  pub channel : ℕ
  pub queued : List ℕ  -- what is queued and wasn't taken yet
  pub is_lost : Bool  -- a put was lost: nothing is queued any more
  pub is_closed : Bool  -- nothing more will be queued
  pub is_shut : Bool
