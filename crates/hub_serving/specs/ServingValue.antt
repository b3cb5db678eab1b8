-- A served hub, as contracts see it.
use Rattle.std.specs.Prelude.{ℕ, List}
use Rattle.hub_node.specs.HubValue.{HubValue}
use Rattle.serving_wires.specs.Row.{Row}
use Rattle.hub_serving.specs.declared.line.Line.{Line}

-- whom it connects to, the hub, and the lines of its wires, that of the wire above first
pub record ServingValue : Type 0 where
  pub peer : List ℕ
  pub hub : HubValue
  pub lines : List (Row Line)
