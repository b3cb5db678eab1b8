-- What the services tell of a process and its threads, as they are (TCF services RunControl and Breakpoints, events).
use Rattle.std.specs.Prelude.{ℕ, Bool, ◌++◌, if◌then◌else◌, List, [], ◌∷◌, map, Option, Some, None}
use Rattle.std.specs.List.{flat_map}
use Rattle.tcf_values.specs.declared.event.EventData.{EventData}
use Rattle.tcf_values.specs.declared.event.EventData.TheVariants as events
use Rattle.tcf_values.specs.declared.values.ContextData.{ContextData}
use Rattle.breakpoints.specs.Counting.{listed}
use Rattle.breakpoints.specs.Statuses.{statuses_of}
use Rattle.breakpoints.specs.declared.rows.Placed.{Placed}
use Rattle.target_contexts.specs.Contexts.{threads_behind, threads_data, whole_data}
use Rattle.target_contexts.specs.Named.{attached_in, stood_numbers}
use Rattle.target_contexts.specs.ProcessValue.{ProcessValue}
use Rattle.target_contexts.specs.Threads.{thread_at, thread_numbers}
use Rattle.target_contexts.specs.declared.process.ThreadState.{ThreadState}
use Rattle.target_contexts.specs.declared.process.ThreadState.TheVariants.{Running, Suspended}
use Rattle.target_contexts.specs.declared.threads.Thread.{Thread}
use Rattle.run_control.specs.Naming.{thread_id}
use Rattle.run_control.specs.TargetValue.{TargetValue}

-- contextAdded, with the process and its threads
abbrev pub added_events : ℕ → Option ProcessValue → List EventData
added_events number None = []
added_events number (Some process) = events.CtxAdded (whole_data number process) ∷ []

-- contextAdded, with the threads behind the first so many, where there is one
abbrev pub contexts_events : List ContextData → List EventData
contexts_events [] = []
contexts_events (context ∷ contexts) = events.CtxAdded (context ∷ contexts) ∷ []

abbrev pub made_events : ℕ → ℕ → Option ProcessValue → List EventData
made_events number before process = contexts_events (threads_behind before number process)

-- contextChanged, with all threads alone
abbrev pub changed_events : ℕ → Option ProcessValue → List EventData
changed_events number None = []
changed_events number (Some process) = events.CtxChanged (threads_data 0 number process) ∷ []

-- contextSuspended, with the pc, the reason and the hits; nothing of a thread that runs
abbrev pub stop_events : ℕ → ℕ → ℕ → ThreadState → List EventData
stop_events number n pc (Running left) = []
stop_events number n pc (Suspended reason hits) = events.Suspended (thread_id number n) pc reason hits ∷ []

abbrev pub suspended_events : ℕ → ℕ → Option Thread → List EventData
suspended_events number n None = []
suspended_events number n (Some thread) = stop_events number n thread.cpu.pc thread.state

-- of all threads, in order
abbrev pub all_suspended_events : ℕ → Option ProcessValue → List EventData
all_suspended_events number None = []
all_suspended_events number (Some process) =
    flat_map (λ n. suspended_events number n (thread_at n process)) (thread_numbers process)

-- contextResumed
abbrev pub resumed_event : ℕ → ℕ → EventData
resumed_event number n = events.Resumed (thread_id number n)

abbrev pub resumed_events : ℕ → ℕ → List EventData
resumed_events number n = resumed_event number n ∷ []

-- of those threads that stood, in order, where this was the process
abbrev pub all_resumed_events : ℕ → Option ProcessValue → List EventData
all_resumed_events number was = map (resumed_event number) (stood_numbers was)

-- one status for each breakpoint, in the order of the list
abbrev pub statuses_in : TargetValue → List EventData
statuses_in target = statuses_of (attached_in target.contexts.processes) target.breakpoints

-- ---- breakpoints that a thread hits

-- contextChanged of the breakpoints of these IDs, where there are several
abbrev pub several_events : List (List ℕ) → List Placed → List EventData
several_events [] bps = []
several_events (id ∷ []) bps = []
several_events (id ∷ other ∷ ids) bps = events.BpChanged (map (λ row. row.props) (listed (id ∷ other ∷ ids) bps)) ∷ []

-- the status of each breakpoint of these IDs, in their order
abbrev pub statuses_among : List (List ℕ) → TargetValue → List EventData
statuses_among ids target = statuses_of (attached_in target.contexts.processes) (listed ids target.breakpoints)

-- what is told of the breakpoints that a thread hits: their statuses, behind contextChanged of them, where the thread runs
-- on and they are several. Where the thread is suspended, contextSuspended has named them
abbrev pub hit_events : Bool → List (List ℕ) → TargetValue → List EventData
hit_events runs ids target = (if runs then several_events ids target.breakpoints else []) ++ statuses_among ids target
