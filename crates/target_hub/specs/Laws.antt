-- The laws of the target, over every target.
use Rattle.std.specs.Prelude.{ℕ, ◌≡◌, false, List, [], IfSome}
use Rattle.std.specs.List.{AllByRecursion}
use Rattle.breakpoints.specs.Rows.{owned_by}
use Rattle.command_tables.specs.declared.reading.Reading.{Reading}
use Rattle.tcf_values.specs.Changing.{changes}
use Rattle.tcf_values.specs.declared.answer.Answer.TheVariants.{Failed}
use Rattle.tcf_values.specs.declared.command.Command.{Command}
use Rattle.tcf_values.specs.declared.errors.ErrorReport.{ErrorReport}
use Rattle.tcf_values.specs.declared.event.EventData.{EventData}
use Rattle.tcf_values.specs.declared.ids.ContextId.{ContextId}
use Rattle.target_hub.specs.Answering.{executed}
use Rattle.target_hub.specs.Execution.{exec_after, exec_effect}
use Rattle.target_hub.specs.Passing.{closed, closed_told, tick_told}
use Rattle.run_control.specs.TargetValue.{TargetValue}

-- a command that an error answers changes nothing, and no event tells of it
abbrev pub FailureChangesNothing : Type 0
FailureChangesNothing = (channel : ℕ) (command : Command) (target : TargetValue) (report : ErrorReport) →
    (exec_effect channel command target).answer ≡ Failed report →
    (exec_after channel command target ≡ target) × ((exec_effect channel command target).events ≡ [])

-- a command that only asks changes nothing, and no event tells of it
abbrev pub AskingChangesNothing : Type 0
AskingChangesNothing = (channel : ℕ) (command : Command) (target : TargetValue) → changes command ≡ false →
    (exec_after channel command target ≡ target) × ((exec_effect channel command target).events ≡ [])

-- and all channels get the same answer to it
abbrev pub AskingIsTheSame : Type 0
AskingIsTheSame = (one other : ℕ) (command : Command) (target : TargetValue) → changes command ≡ false →
    exec_effect one command target ≡ exec_effect other command target

-- a channel that has gone owns no breakpoint
abbrev pub GoneOwnsNothing : Type 0
GoneOwnsNothing = (channel : ℕ) (target : TargetValue) → owned_by channel (closed channel target).breakpoints ≡ []

-- ---- no event of the target is a Hello, by which each end of a channel names its own services

abbrev pub IsNoHello : EventData → Type 0
IsNoHello (EventData.Hello services) = ⊥
IsNoHello event = Unit {0}

abbrev pub AreNoHello : List EventData → Type 0
AreNoHello told = AllByRecursion IsNoHello told

abbrev pub CommandsTellNoHello : Type 0
CommandsTellNoHello = (channel : ℕ) (service name : List ℕ) (reading : Reading) (target : TargetValue) →
    AreNoHello (executed channel service name reading target).events

abbrev pub TicksTellNoHello : Type 0
TicksTellNoHello = (thread : ContextId) (target : TargetValue) → IfSome (tick_told thread target) AreNoHello

abbrev pub ClosingsTellNoHello : Type 0
ClosingsTellNoHello = (channel : ℕ) (target : TargetValue) → AreNoHello (closed_told channel target)
