-- What an agent has answered of what it was asked on a channel.
use Rattle.std.specs.Prelude.{◌≡◌, false, List}
use Rattle.std.specs.List.{AllByRecursion, list_any}
use Rattle.agent_node.specs.Runs.{Call, Past, after_all, no_calls, run_of}
use Rattle.channel_core.specs.Arrivals.{Spoken}
use Rattle.channel_core.specs.QueueLaws.{is_commanding}
use Rattle.channel_core.specs.ReceivingLaws.{SendsReadable}
use Rattle.channel_core.specs.Wire.{hello, locator}
use Rattle.channel_laws.specs.Meeting.{AnswersAll}
use Rattle.channel_laws.specs.Numbering.{TakesNumbered}
use Rattle.target_contexts.specs.declared.process.Image.{Image}
use Rattle.target_hub.specs.Sent.{agent_services}
use Rattle.tcf_message.specs.Message.{IsWellFormed, event}

-- It sends no command, all that it sends can be read, and each command that was taken is answered, where their tokens count
-- from 1; a redirect with an error.
pub record ServesAll (past : Past) : Type 0 where
  pub formed : IsWellFormed (event locator hello agent_services)
  pub readable : SendsReadable past.calls
  pub asks_nothing : list_any is_commanding past.calls ≡ false
  pub answers : TakesNumbered (run_of past) → (spoken : List Spoken) × AnswersAll (run_of past) spoken

abbrev pub ServesAllAfterAnyCalls : Type 0
ServesAllAfterAnyCalls = (images : List Image) (calls : List Call) → AllByRecursion ServesAll (after_all calls (no_calls images)).channels
