-- A hub as contracts see it.
use Rattle.std.specs.Prelude.{Bool}
use Rattle.hub_node.specs.RelayValue.{RelayValue}

pub record HubValue : Type 0 where
  pub relay : RelayValue
  pub is_spent : Bool  -- memory was wanting, and nothing is done any more
