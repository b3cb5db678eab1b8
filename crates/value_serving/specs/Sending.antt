-- What a side of a value-add has to send is put on its wire.
use Rattle.std.specs.Prelude.{ℕ, List}
use Rattle.serving_wires.specs.Order.{queues}
use Rattle.serving_wires.specs.OutboxValue.{OutboxValue}
use Rattle.serving_wires.specs.Row.{Row}
use Rattle.serving_wires.specs.Sending.{closed_if, ordered}
use Rattle.value_node.specs.ValueValue.{ValueValue}
use Rattle.value_node.specs.declared.states.Side.{Side}
use Rattle.value_serving.specs.Adds.{bytes_for, is_over}

-- what a side has to send is queued, and behind the last of it nothing more will be
abbrev pub with_sent : Side → ℕ → ValueValue → List (Row OutboxValue) → List (Row OutboxValue)
with_sent side channel node rows = closed_if (is_over side node.relay.bind) channel (ordered (queues channel (bytes_for side node)) rows)
