-- What a message is to the end that it comes to.
use Rattle.std.specs.Prelude.{ℕ, Bool}

pub data Judged : Type 0 where
  TooEarly : Judged  -- it came before the Hello
  Stray : Judged  -- it answers no pending command that was sent
  Greets : Judged
  Tells : Judged
  Asks : Judged
  GoesOn : (place : ℕ) → Judged  -- progress of the pending command at this place
  Answers : (place : ℕ) (done : Bool) → Judged  -- the final answer to it, and whether a redirect is done by it
