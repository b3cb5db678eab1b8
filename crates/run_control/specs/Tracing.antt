-- Trace.run: several instructions of a suspended thread at once. A breakpoint that is hit ends it, whatever its IgnoreCount,
-- and no count is raised. Trace is this project's own service.
use Rattle.std.specs.Prelude.{ℕ, zero, suc, ℤ, pos, ◌==◌, Bool, not, if◌then◌else◌, List, [], ◌∷◌, ◌++◌, length, map, take, Option, Some, None, is_none}
use Rattle.std.specs.Option.{option_map_or}
use Rattle.tcf_values.specs.Faults.{first_fault}
use Rattle.tcf_values.specs.declared.event.EventData.{EventData}
use Rattle.tcf_values.specs.declared.faults.Fault.{Fault}
use Rattle.tcf_values.specs.declared.faults.Fault.TheVariants.{AlreadyRunning, BadContext, BadNumber}
use Rattle.breakpoints.specs.declared.rows.Placed.{Placed}
use Rattle.rv32i_core.specs.Machine.{Step, goes_on, ends, excepts, machine, spawns}
use Rattle.target_contexts.specs.Changes.{with_change}
use Rattle.target_contexts.specs.Live.{process_of}
use Rattle.target_contexts.specs.Named.{is_running}
use Rattle.target_contexts.specs.ProcessValue.{ProcessValue}
use Rattle.target_contexts.specs.Threads.{thread_at, thread_count}
use Rattle.target_contexts.specs.declared.threads.Thread.{Thread}
use Rattle.target_contexts.specs.declared.process.ThreadState.TheVariants.{Suspended}
use Rattle.run_control.specs.Executing.{fate_by, halt_of, hits_at, pc_at, settled, settled_events, step_text, stepped}
use Rattle.run_control.specs.Naming.{is_empty}
use Rattle.run_control.specs.Settling.{settled_as, settled_in}
use Rattle.run_control.specs.Steering.{is_no_count, thread_there}
use Rattle.run_control.specs.TargetValue.{TargetValue, with_contexts}
use Rattle.run_control.specs.declared.executing.Executed.{Executed}
use Rattle.run_control.specs.declared.executing.Executed.TheVariants.{Plain, Hit, Exit, Exception}
use Rattle.run_control.specs.declared.executing.Fate.{Fate}
use Rattle.run_control.specs.declared.tracing.Traced.{Traced}

abbrev pub trace_fault : List ℕ → ℤ → List (ℕ × ProcessValue) → Option Fault
trace_fault id count rows = first_fault (
    (is_none (thread_there id rows), BadContext)
    ∷ (is_no_count (pos 64) count, BadNumber)
    ∷ (is_running (thread_there id rows), AlreadyRunning)
    ∷ [])

-- ---- the states of a trace, which are those of the process while its thread n executes

-- where the machine goes on, the process after the instruction
abbrev pub next_by : Step → ProcessValue → Option ProcessValue
next_by (goes_on cpu memory) after = Some after
next_by (ends code) after = None
next_by (spawns entry argument) after = Some after
next_by excepts after = None

-- a thread that isn't there stays as it is
abbrev pub next_at : ℕ → Option Thread → ProcessValue → Option ProcessValue
next_at n None process = Some (stepped n process)
next_at n (Some thread) process = next_by (machine thread.cpu process.memory) (stepped n process)

abbrev pub next_of : ℕ → ProcessValue → Option ProcessValue
next_of n process = next_at n (thread_at n process) process

-- the states that a process comes to, one after the other, as far as its machine goes on and so many at most
abbrev pub run_from : ℕ → ℕ → ProcessValue → List ProcessValue
run_from n zero process = []
run_from n (suc count) process = option_map_or (λ next. next ∷ run_from n count next) (next_of n process) []

-- up to the first that hits a breakpoint, with that one
abbrev pub up_to_hit : List Placed → ℕ → ℕ → List ProcessValue → List ProcessValue
up_to_hit bps number n [] = []
up_to_hit bps number n (state ∷ states) =
    state ∷ (if is_empty (hits_at bps number n state) then up_to_hit bps number n states else [])

abbrev pub states_of : List Placed → ℕ → ℕ → ℕ → ProcessValue → List ProcessValue
states_of bps number n count process = up_to_hit bps number n (run_from n count process)

-- the state in which a trace stops; the first where no instruction is executed
abbrev pub last_of : ProcessValue → List ProcessValue → ProcessValue
last_of process [] = process
last_of process (state ∷ states) = last_of state states

-- ---- why it stops

-- the hits in the last state; none where no instruction is executed
abbrev pub last_hits : List Placed → ℕ → ℕ → ProcessValue → List ProcessValue → List (List ℕ)
last_hits bps number n process [] = []
last_hits bps number n process (state ∷ states) = hits_at bps number n (last_of state states)

-- breakpoints are hit, or all instructions that were asked for are executed, or the machine doesn't go on
abbrev pub stop_by : List (List ℕ) → Bool → ℕ → ProcessValue → Executed
stop_by hits all n last =
    if not (is_empty hits) then Hit hits
    else if all then Plain
    else halt_of n last

abbrev pub stop_of : List Placed → ℕ → ℕ → ℕ → ProcessValue → List ProcessValue → Executed
stop_of bps number n count process states =
    stop_by (last_hits bps number n process states) (length states == count) n (last_of process states)

-- ---- the addresses of the executed instructions

-- an ECALL that exits is executed, and an instruction that raises an exception isn't
abbrev pub exit_address : ℕ → ProcessValue → Executed → List ℕ
exit_address n last Plain = []
exit_address n last (Hit hits) = []
exit_address n last (Exit code) = pc_at n last ∷ []
exit_address n last Exception = []

-- each state but the last has executed the instruction at its pc
abbrev pub addresses_of : ℕ → ProcessValue → List ProcessValue → Executed → List ℕ
addresses_of n process states stop =
    map (pc_at n) (take (length states) (process ∷ states)) ++ exit_address n (last_of process states) stop

-- ---- the trace as a whole

pub record Trace : Type 0 where
  pub process : ProcessValue  -- as it is then
  pub addresses : List ℕ  -- of the executed instructions, in order
  pub stop : Executed  -- why it stops

abbrev pub trace_by : List Placed → ℕ → ℕ → ℕ → ProcessValue → List ProcessValue → Trace
trace_by bps number n count process states =
    let stop = stop_of bps number n count process states in
    record { process = last_of process states; addresses = addresses_of n process states stop; stop = stop }

abbrev pub trace_of : List Placed → ℕ → ℕ → ℕ → ProcessValue → Trace
trace_of bps number n count process = trace_by bps number n count process (states_of bps number n count process)

-- ---- what becomes of the process: where all are executed, its thread is suspended by the step

abbrev pub trace_fate : ProcessValue → Trace → Fate
trace_fate process trace = fate_by (Suspended step_text []) process.attached trace.stop

-- the process after the trace, with its thread in the state that it is to have, and what is left to be done
abbrev pub traced_process : List Placed → ℕ → ℕ → ℕ → ProcessValue → ProcessValue
traced_process bps number n count process =
    let trace = trace_of bps number n count process in
    settled_in n (trace_fate process trace) trace.process

abbrev pub traced_of : List Placed → ℕ → ℕ → ℕ → ProcessValue → Traced
traced_of bps number n count process =
    let trace = trace_of bps number n count process in
    record {
      addresses = trace.addresses;
      settled = settled_as number n (thread_count process) (trace_fate process trace) (traced_process bps number n count process);
    }

abbrev pub traced_at : ℕ → ℕ → ℕ → Option ProcessValue → TargetValue → TargetValue
traced_at number n count None target = target
traced_at number n count (Some process) target =
    let trace = trace_of target.breakpoints number n count process in
    settled number n (trace_fate process trace) (with_contexts (with_change (λ _. trace.process) number) target)

abbrev pub trace_after : ℕ → ℕ → ℕ → TargetValue → TargetValue
trace_after count number n target = traced_at number n count (process_of number target.contexts.processes) target

abbrev pub traced_events_at : List Placed → ℕ → ℕ → ℕ → Option ProcessValue → TargetValue → List EventData
traced_events_at bps number n count None after = []
traced_events_at bps number n count (Some process) after =
    settled_events number n (thread_count process) (trace_fate process (trace_of bps number n count process)) after

abbrev pub trace_events : ℕ → ℕ → ℕ → TargetValue → TargetValue → List EventData
trace_events count number n target after =
    traced_events_at target.breakpoints number n count (process_of number target.contexts.processes) after

abbrev pub addresses_at : List Placed → ℕ → ℕ → ℕ → Option ProcessValue → List ℕ
addresses_at bps number n count None = []
addresses_at bps number n count (Some process) = (trace_of bps number n count process).addresses

abbrev pub trace_addresses : ℕ → ℕ → ℕ → TargetValue → List ℕ
trace_addresses count number n target =
    addresses_at target.breakpoints number n count (process_of number target.contexts.processes)
