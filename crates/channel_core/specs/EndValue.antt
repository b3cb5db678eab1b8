-- An end of a channel as contracts see it.
use Rattle.std.specs.Prelude.{ℕ, ℤ, Bool, if◌then◌else◌, List, Option}
use Rattle.stream_escape.specs.Value.{UnescapeValue}
use Rattle.channel_core.specs.declared.held.Arrived.{Arrived}
use Rattle.channel_core.specs.declared.held.Held.{Held}
use Rattle.channel_core.specs.declared.held.Outgoing.{Outgoing}
use Rattle.channel_core.specs.declared.states.Cause.{Cause}
use Rattle.channel_core.specs.declared.states.EndState.{EndState}

-- one end of a channel, whose pending commands bear tags
pub record EndValue (T : Type 0) : Type 0 where
  pub state : EndState
  pub redirect : Option ℕ  -- the token of a redirect that was sent and isn't answered
  pub stream : UnescapeValue  -- what came of a message that isn't whole
  pub inbox : List Arrived  -- the messages that came and weren't taken, oldest first
  pub stop : Option Cause  -- the last entry behind them, which closes the end for this cause
  pub came : ℕ  -- how many messages came
  pub pending : List (ℕ × T)  -- the commands without a final answer, by their tokens, in order of issue
  pub last : ℕ  -- the last token
  pub held : List Held  -- those of them that weren't sent yet, in order
  pub queued : List Outgoing  -- what is to be sent, in order
  pub told : ℤ  -- the level that the other side told last, 0 before the first
  pub is_loud : Bool  -- the level that it was told last is above 0
  pub is_spent : Bool  -- memory was wanting, and nothing is done any more

abbrev pub unless_spent : {A T : Type 0} → EndValue T → A → A → A
unless_spent e spent other = if e.is_spent then spent else other
