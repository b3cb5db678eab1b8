-- The ends of a hub as contracts see them.
use Rattle.std.specs.Prelude.{Bool, List}
use Rattle.channel_core.specs.EndValue.{EndValue}
use Rattle.channel_list.specs.NumbersValue.{NumbersValue}
use Rattle.channel_list.specs.declared.channel.Channel.{Channel}
use Rattle.hub_node.specs.BoardValue.{BoardValue}
use Rattle.hub_node.specs.declared.waiting.Tag.{Tag}

pub record RelayValue : Type 0 where
  pub upper : EndValue Tag
  pub is_bound : Bool  -- the Hello from above has come
  pub lowers : List Channel  -- those that are live or of which something is still to be sent, in the order of their opening
  pub numbers : NumbersValue  -- those that were given to lower channels
  pub board : BoardValue  -- what is kept of the commands that are pending above
