-- What is ordered for the wire of a channel.
use Rattle.std.specs.Prelude.{ℕ, List}

pub data Order : Type 0 where
  queues : ℕ → List ℕ → Order  -- these bytes go behind what is queued
  closes : ℕ → Order  -- nothing more will be queued
  leaves : ℕ → Order  -- another wire takes its place: what is queued is dropped, and nothing more will be queued

abbrev pub channel_of : Order → ℕ
channel_of (queues channel bytes) = channel
channel_of (closes channel) = channel
channel_of (leaves channel) = channel
