-- The laws of run control, over every target and over whole runs.
use Rattle.std.specs.Prelude.{ℕ, ℤ, ◌≡◌, Bool, true, false, List, [], ◌∷◌, map, Option, Some, None}
use Rattle.std.specs.List.{AllByRecursion, filter_map}
use Rattle.tcf_values.specs.declared.command.Command.{Command}
use Rattle.tcf_values.specs.declared.event.EventData.{EventData}
use Rattle.tcf_values.specs.declared.event.EventData.TheVariants as events
use Rattle.tcf_values.specs.declared.ids.ContextId.{ContextId}
use Rattle.tcf_values.specs.declared.values.BpProps.{BpProps}
use Rattle.breakpoints.specs.Rows.{IsOrderly as AreListed}
use Rattle.breakpoints.specs.declared.rows.Placed.{Placed}
use Rattle.target_contexts.specs.Laws.{AgreeBut}
use Rattle.target_contexts.specs.Live.{IsLive, IsOrderly, process_of}
use Rattle.target_contexts.specs.ProcessValue.{ProcessValue}
use Rattle.target_contexts.specs.declared.threads.Thread.{Thread}
use Rattle.target_contexts.specs.declared.process.ThreadState.{ThreadState}
use Rattle.target_contexts.specs.declared.process.ThreadState.TheVariants.{Running, Suspended}
use Rattle.run_control.specs.Commands.{run_after}
use Rattle.run_control.specs.Ending.{end_after, end_events}
use Rattle.run_control.specs.Naming.{process_id}
use Rattle.run_control.specs.TargetValue.{TargetValue}
use Rattle.run_control.specs.Ticking.{tick_after, ticked}

-- ---- an end is told once, and its process is gone

abbrev pub exit_in : EventData → Option (List ℕ × ℤ)
exit_in (events.Exited id code) = Some (id, code)
exit_in _ = None

-- the exits that events tell, in order
abbrev pub exits_in : List EventData → List (List ℕ × ℤ)
exits_in told = filter_map exit_in told

abbrev pub EndsOnce : Type 0
EndsOnce = (number count : ℕ) (code : ℤ) (target : TargetValue) → IsOrderly target.contexts.processes target.contexts.next →
    (exits_in (end_events number count code (end_after number target)) ≡ (process_id number, code) ∷ [])
    × (IsLive number (end_after number target).contexts.processes → ⊥)
    × AgreeBut number target.contexts.processes (end_after number target).contexts.processes

-- ---- of the breakpoints run control changes the counts of hits alone
abbrev pub uncounted : List Placed → List (ℕ × BpProps)
uncounted rows = map (λ row. (row.channel, row.props)) rows

abbrev pub CommandsCountAlone : Type 0
CommandsCountAlone = (command : Command) (target : TargetValue) → uncounted (run_after command target).breakpoints ≡ uncounted target.breakpoints

abbrev pub TicksCountAlone : Type 0
TicksCountAlone = (thread : ContextId) (target : TargetValue) → uncounted (tick_after thread target).breakpoints ≡ uncounted target.breakpoints

-- and these stay of 32 bits
abbrev pub CommandsKeepList : Type 0
CommandsKeepList = (command : Command) (target : TargetValue) → AreListed target.breakpoints → AreListed (run_after command target).breakpoints

abbrev pub TicksKeepList : Type 0
TicksKeepList = (thread : ContextId) (target : TargetValue) → AreListed target.breakpoints → AreListed (tick_after thread target).breakpoints

-- ---- a tick touches no other process

abbrev pub TouchesOne : Type 0
TouchesOne = (number n : ℕ) (target : TargetValue) → IsOrderly target.contexts.processes target.contexts.next →
    AgreeBut number target.contexts.processes (ticked number n target).contexts.processes

-- ---- a suspended thread's process is attached, and so is that of a thread whose instructions are counted

abbrev pub needs_debugger : ThreadState → Bool
needs_debugger (Running None) = false
needs_debugger (Running (Some left)) = true
needs_debugger (Suspended reason hits) = true

abbrev pub IsSoundThread : Bool → Thread → Type 0
IsSoundThread attached thread = needs_debugger thread.state ≡ true → attached ≡ true

abbrev pub IsSound : ProcessValue → Type 0
IsSound process = AllByRecursion (IsSoundThread process.attached) process.threads

abbrev pub AreSound : List (ℕ × ProcessValue) → Type 0
AreSound rows = (number : ℕ) (process : ProcessValue) → process_of number rows ≡ Some process → IsSound process

-- each command keeps it, whatever breakpoints there are, and so does each tick
abbrev pub CommandsKeepSound : Type 0
CommandsKeepSound = (command : Command) (target : TargetValue) → IsOrderly target.contexts.processes target.contexts.next →
    AreSound target.contexts.processes → AreSound (run_after command target).contexts.processes

abbrev pub TicksKeepSound : Type 0
TicksKeepSound = (thread : ContextId) (target : TargetValue) → IsOrderly target.contexts.processes target.contexts.next →
    AreSound target.contexts.processes → AreSound (tick_after thread target).contexts.processes

-- ---- the processes stay orderly

abbrev pub CommandsKeepOrder : Type 0
CommandsKeepOrder = (command : Command) (target : TargetValue) → IsOrderly target.contexts.processes target.contexts.next →
    IsOrderly (run_after command target).contexts.processes (run_after command target).contexts.next

abbrev pub TicksKeepOrder : Type 0
TicksKeepOrder = (thread : ContextId) (target : TargetValue) → IsOrderly target.contexts.processes target.contexts.next →
    IsOrderly (tick_after thread target).contexts.processes (tick_after thread target).contexts.next
