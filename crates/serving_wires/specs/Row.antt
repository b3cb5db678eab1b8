-- A row of a roster: what stands under the number of a channel.
use Rattle.std.specs.Prelude.{ℕ}

-- what is kept of a connection, under the number of its channel
pub record Row (T : Type 0) : Type 0 where
  pub channel : ℕ
  pub item : T
