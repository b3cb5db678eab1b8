-- A tick: one instruction of a thread that runs.
use Rattle.std.specs.Prelude.{ℕ, ◌-◌, nat_lt, Bool, false, if◌then◌else◌, List, [], ◌∷◌, Option, Some, None, option_map, option_and_then}
use Rattle.std.specs.Option.{option_map_or}
use Rattle.tcf_values.specs.declared.event.EventData.{EventData}
use Rattle.tcf_values.specs.declared.ids.ContextId.{ContextId}
use Rattle.breakpoints.specs.Counting.{counted as raised_at, stops_at}
use Rattle.breakpoints.specs.declared.rows.Placed.{Placed}
use Rattle.target_contexts.specs.Changes.{with_change}
use Rattle.target_contexts.specs.Live.{process_of}
use Rattle.target_contexts.specs.Named.{is_running, thread_for}
use Rattle.target_contexts.specs.ProcessValue.{ProcessValue}
use Rattle.target_contexts.specs.Threads.{thread_at, thread_count, thread_of}
use Rattle.target_contexts.specs.declared.process.ThreadState.{ThreadState}
use Rattle.target_contexts.specs.declared.process.ThreadState.TheVariants.{Running, Suspended}
use Rattle.target_contexts.specs.declared.threads.Thread.{Thread}
use Rattle.run_control.specs.Executing.{breakpoint_text, fate_by, halt_of, hits_at, lives, settled, settled_events, step_text, stepped}
use Rattle.run_control.specs.Settling.{settled_as, settled_in}
use Rattle.run_control.specs.TargetValue.{TargetValue}
use Rattle.run_control.specs.declared.executing.Executed.{Executed}
use Rattle.run_control.specs.declared.executing.Executed.TheVariants.{Plain, Hit, Exit, Exception}
use Rattle.run_control.specs.declared.executing.Fate.{Fate}
use Rattle.run_control.specs.declared.executing.Settled.{Settled}

-- the process of a thread and the thread's number, where it lives and runs
abbrev pub running_pair : ContextId → List (ℕ × ProcessValue) → Option (ℕ × ℕ)
running_pair thread rows =
    option_and_then (λ pair. if is_running (thread_of pair.0 pair.1 rows) then Some pair else None) (thread_for thread)

-- an executed instruction counts down what is left to step, and after the last one the thread is suspended
abbrev pub counted_by : Option ℕ → ThreadState
counted_by None = Running None
counted_by (Some left) = if nat_lt 1 left then Running (Some (left - 1)) else Suspended step_text []

abbrev pub counted : ThreadState → ThreadState
counted (Running left) = counted_by left
counted (Suspended reason hits) = Suspended reason hits

-- the state of a thread after an instruction without a hit; one that isn't there runs no more
abbrev pub counted_in : Option Thread → ThreadState
counted_in None = Running None
counted_in (Some thread) = counted thread.state

-- ---- the test for breakpoints, which raises the counts of those that are hit

-- one of them stops the thread, once they are raised
abbrev pub stops_in : List Placed → ℕ → Bool → Option Thread → Bool
stops_in bps number attached None = false
stops_in bps number attached (Some thread) = stops_at number attached thread.cpu.pc bps

abbrev pub is_stopped : List Placed → ℕ → ℕ → ProcessValue → Bool
is_stopped bps number n process = stops_in bps number process.attached (thread_at n process)

abbrev pub raised_in : List Placed → ℕ → Bool → Option Thread → List Placed
raised_in bps number attached None = bps
raised_in bps number attached (Some thread) = raised_at number attached thread.cpu.pc bps

abbrev pub raised_for : List Placed → ℕ → ℕ → ProcessValue → List Placed
raised_for bps number n process = raised_in bps number process.attached (thread_at n process)

-- only an executed instruction that is no exit is followed by it
abbrev pub raised_by : Executed → List Placed → List Placed → List Placed
raised_by Plain raised bps = raised
raised_by (Hit hits) raised bps = bps
raised_by (Exit code) raised bps = bps
raised_by Exception raised bps = bps

-- the breakpoints after an instruction
abbrev pub counts_after : List Placed → ℕ → ℕ → ProcessValue → List Placed
counts_after bps number n process = raised_by (halt_of n process) (raised_for bps number n (stepped n process)) bps

-- ---- what becomes of the process

-- a thread that is suspended names what it hits
abbrev pub with_hits : List (List ℕ) → ThreadState → ThreadState
with_hits hits (Running left) = Running left
with_hits hits (Suspended reason others) = Suspended reason hits

-- what it hits may stop the thread, whatever is left to step; else it has the state that it would have without a hit
abbrev pub hit_state : List (List ℕ) → Bool → ThreadState → ThreadState
hit_state [] stops plain = plain
hit_state (hit ∷ hits) stops plain = if stops then Suspended breakpoint_text (hit ∷ hits) else with_hits (hit ∷ hits) plain

abbrev pub tick_fate_by : List (List ℕ) → Bool → ThreadState → Bool → Executed → Fate
tick_fate_by hits stops plain attached Plain = lives (hit_state hits stops plain) hits
tick_fate_by hits stops plain attached (Hit others) = fate_by plain attached (Hit others)
tick_fate_by hits stops plain attached (Exit code) = fate_by plain attached (Exit code)
tick_fate_by hits stops plain attached Exception = fate_by plain attached Exception

abbrev pub tick_fate : List Placed → ℕ → ℕ → ProcessValue → Fate
tick_fate bps number n process =
    let after = stepped n process in
    tick_fate_by (hits_at bps number n after) (is_stopped bps number n after) (counted_in (thread_at n process)) process.attached (halt_of n process)

-- the process after the tick, with its thread in the state that it is to have, and what is left to be done
abbrev pub tick_process : List Placed → ℕ → ℕ → ProcessValue → ProcessValue
tick_process bps number n process = settled_in n (tick_fate bps number n process) (stepped n process)

abbrev pub tick_settled : List Placed → ℕ → ℕ → ProcessValue → Settled
tick_settled bps number n process =
    settled_as number n (thread_count process) (tick_fate bps number n process) (tick_process bps number n process)

-- ---- the tick as a whole: the instruction is executed, and then its process ends, or its thread is suspended or goes on

abbrev pub executed_after : ℕ → ℕ → ProcessValue → TargetValue → TargetValue
executed_after number n process target = record {
  contexts = with_change (stepped n) number target.contexts;
  breakpoints = counts_after target.breakpoints number n process;
}

abbrev pub ticked_at : ℕ → ℕ → Option ProcessValue → TargetValue → TargetValue
ticked_at number n None target = target
ticked_at number n (Some process) target =
    settled number n (tick_fate target.breakpoints number n process) (executed_after number n process target)

abbrev pub ticked : ℕ → ℕ → TargetValue → TargetValue
ticked number n target = ticked_at number n (process_of number target.contexts.processes) target

abbrev pub ticked_events_at : List Placed → ℕ → ℕ → Option ProcessValue → TargetValue → List EventData
ticked_events_at bps number n None after = []
ticked_events_at bps number n (Some process) after =
    settled_events number n (thread_count process) (tick_fate bps number n process) after

abbrev pub ticked_events : ℕ → ℕ → TargetValue → List EventData
ticked_events number n target =
    ticked_events_at target.breakpoints number n (process_of number target.contexts.processes) (ticked number n target)

-- ---- the tick of a thread, which has to live and run

abbrev pub tick_after : ContextId → TargetValue → TargetValue
tick_after thread target = option_map_or (λ pair. ticked pair.0 pair.1 target) (running_pair thread target.contexts.processes) target

abbrev pub tick_events : ContextId → TargetValue → Option (List EventData)
tick_events thread target = option_map (λ pair. ticked_events pair.0 pair.1 target) (running_pair thread target.contexts.processes)
