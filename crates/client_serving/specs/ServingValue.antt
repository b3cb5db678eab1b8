-- A client that is served, as contracts see it.
use Rattle.std.specs.Prelude.{ℕ, List, Option}
use Rattle.client_node.specs.ClientValue.{ClientValue}
use Rattle.tcf_schedules.specs.declared.script.ScriptLine.{ScriptLine}
use Rattle.client_serving.specs.declared.end.ClientEnd.{ClientEnd}

-- a client that is served
pub record ServingValue : Type 0 where
  pub peer : List ℕ  -- the address of its peer
  pub channel : Option ℕ  -- its wire, once it is connected
  pub client : ClientValue
  pub left : List ScriptLine  -- the lines that are left of its script
  pub end : Option ClientEnd  -- how its run ended
