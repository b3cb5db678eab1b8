-- The node of an agent as contracts see it.
use Rattle.std.specs.Prelude.{ℕ, Bool, List}
use Rattle.channel_list.specs.NumbersValue.{NumbersValue}
use Rattle.channel_list.specs.declared.channel.Channel.{Channel}
use Rattle.target_hub.specs.HubValue.{TargetValue}

-- an agent: the target, how many inputs it has had, the numbers that were given to channels, and the channels that are
-- live or of which something is still to be sent, in the order of their opening
pub record AgentValue : Type 0 where
  pub target : TargetValue
  pub position : ℕ
  pub numbers : NumbersValue
  pub channels : List Channel
  pub is_spent : Bool  -- memory was wanting, and nothing is done any more
