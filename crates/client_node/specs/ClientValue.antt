-- The node of a client as contracts see it.
use Rattle.std.specs.Prelude.{ℕ, Bool, List, Option}
use Rattle.channel_core.specs.EndValue.{EndValue}
use Rattle.tcf_text.specs.declared.log.LogLine.{LogLine}

-- a client: its end of the channel, from its opening on, whose commands bear their numbers, and the log
pub record ClientValue : Type 0 where
  pub channel : Option (EndValue ℕ)
  pub log : List LogLine
  pub is_spent : Bool  -- memory was wanting, and nothing is done any more
