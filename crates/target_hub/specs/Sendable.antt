-- What the hub hands out can be sent: the service, the name and the data of a message have at most 1,048,576 bytes
-- together, and neither service nor name has a zero byte (TCF protocol, messages; the limit is this profile's).
use Rattle.std.specs.Prelude.{ℕ, ◌≡◌, ◌+◌, ◌≤◌, ◌==◌, Bool, false, List, length, IfSome}
use Rattle.std.specs.List.{AllByRecursion, list_any}
use Rattle.breakpoints.specs.Rows.{IsOrderly as AreListed}
use Rattle.command_tables.specs.Reading.{IsReading}
use Rattle.command_tables.specs.declared.reading.Reading.{Reading}
use Rattle.reply_tables.specs.Events.{event_data}
use Rattle.service_names.specs.Events.{name_of, service_of, told_as}
use Rattle.target_contexts.specs.Live.{IsOrderly}
use Rattle.target_contexts.specs.Short.{AllShort}
use Rattle.tcf_values.specs.declared.event.EventData.{EventData}
use Rattle.tcf_values.specs.declared.ids.ContextId.{ContextId}
use Rattle.target_hub.specs.Answering.{after_reading, executed}
use Rattle.target_hub.specs.Limits.{AreReadable}
use Rattle.target_hub.specs.Passing.{closed_told, tick_told, ticked}
use Rattle.target_hub.specs.declared.done.Answered.{Answered}
use Rattle.target_hub.specs.declared.done.Answered.TheVariants.{Unknown, Result}
use Rattle.run_control.specs.TargetValue.{TargetValue}

abbrev pub HasNoZero : List ℕ → Type 0
HasNoZero text = list_any (λ byte. byte == 0) text ≡ false

pub record IsSendableEvent (event : EventData) : Type 0 where
  pub size : length (service_of (told_as event)) + length (name_of (told_as event)) + length (event_data event) ≤ 1048576
  pub service : HasNoZero (service_of (told_as event))
  pub name : HasNoZero (name_of (told_as event))

abbrev pub AreSendable : List EventData → Type 0
AreSendable told = AllByRecursion IsSendableEvent told

-- that there is no such command is said without data
abbrev pub IsSendable : Answered → Type 0
IsSendable Unknown = Unit {0}
IsSendable (Result body) = length body ≤ 1048576

-- ---- what the target holds is bounded

pub record IsBounded (target : TargetValue) : Type 0 where
  pub processes : AllShort target.contexts.processes  -- their names, reasons and hits
  pub orderly : IsOrderly target.contexts.processes target.contexts.next  -- at most 64
  pub listed : AreListed target.breakpoints  -- at most 256
  pub properties : AreReadable target.breakpoints  -- texts of limited lengths

-- what always holds of a hub's target: where memory was wanting, nothing is known of the processes
pub record IsHeld (spent : Bool) (target : TargetValue) : Type 0 where
  pub processes : spent ≡ false → AllShort target.contexts.processes
  pub properties : AreReadable target.breakpoints

-- ---- the laws: then what is told and answered can be sent

abbrev pub CommandsTellSendable : Type 0
CommandsTellSendable = (channel : ℕ) (service name : List ℕ) (reading : Reading) (target : TargetValue) → IsReading service name reading → IsBounded target →
    AreSendable (executed channel service name reading target).events

abbrev pub AnswersAreSendable : Type 0
AnswersAreSendable = (channel : ℕ) (service name : List ℕ) (reading : Reading) (target : TargetValue) → IsBounded target →
    IsSendable (executed channel service name reading target).answer

abbrev pub TicksTellSendable : Type 0
TicksTellSendable = (thread : ContextId) (target : TargetValue) → IsBounded target → IfSome (tick_told thread target) AreSendable

abbrev pub ClosingsTellSendable : Type 0
ClosingsTellSendable = (channel : ℕ) (target : TargetValue) → IsBounded target → AreSendable (closed_told channel target)

-- and names, reasons and hits stay short
abbrev pub CommandsKeepShort : Type 0
CommandsKeepShort = (channel : ℕ) (reading : Reading) (target : TargetValue) → IsBounded target → AllShort (after_reading channel reading target).contexts.processes

abbrev pub TicksKeepShort : Type 0
TicksKeepShort = (thread : ContextId) (target : TargetValue) → IsBounded target → AllShort (ticked thread target).contexts.processes
