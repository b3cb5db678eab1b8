-- What passes without a command: a thread that executes an instruction, and a channel that goes.
use Rattle.std.specs.Prelude.{ℕ, List, Option}
use Rattle.tcf_values.specs.declared.event.EventData.{EventData}
use Rattle.tcf_values.specs.declared.ids.ContextId.{ContextId}
use Rattle.breakpoints.specs.Rows.{ids_of, others, owned_by}
use Rattle.run_control.specs.Ticking.{tick_after, tick_events}
use Rattle.target_contexts.specs.Named.{running_threads}
use Rattle.target_contexts.specs.ProcessValue.{ProcessValue}
use Rattle.target_hub.specs.BreakpointsRows.{removed_events}
use Rattle.run_control.specs.TargetValue.{TargetValue}

-- ---- one instruction of a thread, where it lives and runs

abbrev pub ticked : ContextId → TargetValue → TargetValue
ticked thread target = tick_after thread target

abbrev pub tick_told : ContextId → TargetValue → Option (List EventData)
tick_told thread target = tick_events thread target

-- the threads that run, in the order of their processes and then of their numbers
abbrev pub running_in : List (ℕ × ProcessValue) → List ContextId
running_in rows = running_threads rows

-- ---- a channel that goes takes its breakpoints with it, and contextRemoved tells them where there are some

abbrev pub closed : ℕ → TargetValue → TargetValue
closed channel target = record target { breakpoints = others channel target.breakpoints }

abbrev pub closed_told : ℕ → TargetValue → List EventData
closed_told channel target = removed_events (ids_of (owned_by channel target.breakpoints))
