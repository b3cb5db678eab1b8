-- An agent that is served, as contracts see it.
use Rattle.std.specs.Prelude.{List}
use Rattle.agent_node.specs.AgentValue.{AgentValue}
use Rattle.serving_wires.specs.Row.{Row}
use Rattle.serving_wires.specs.declared.intake.Came.{Came}

-- an agent, and what came on each of its channels and waits, in the order of their opening
pub record ServingValue : Type 0 where
  pub agent : AgentValue
  pub lines : List (Row (List Came))
