-- What the commands of RunControl, Processes and Trace give and what they leave, in the order of the services' pages.
use Rattle.std.specs.Prelude.{ℕ, ℤ, pos, neg_ℤ, unsigned_abs, Bool, true, false, List, [], length, Option, Some, None}
use Rattle.std.specs.Option.{option_map_or}
use Rattle.tcf_values.specs.Effects.{effect_by, gives, tells}
use Rattle.tcf_values.specs.declared.answer.Answer.TheVariants as answers
use Rattle.tcf_values.specs.declared.command.Command.{Command}
use Rattle.tcf_values.specs.declared.command.Command.TheVariants.{GetContext, GetChildren, GetState, Resume, Suspend, Terminate, ProcContext, ProcChildren, ProcStart, ProcAttach, ProcDetach, ProcTerminate, TraceRun}
use Rattle.tcf_values.specs.declared.effect.Effect.{Effect}
use Rattle.tcf_values.specs.declared.event.EventData.{EventData}
use Rattle.tcf_values.specs.declared.faults.Fault.{Fault}
use Rattle.target_contexts.specs.Live.{process_of}
use Rattle.target_contexts.specs.Named.{number_named, thread_named}
use Rattle.target_contexts.specs.Starting.{started}
use Rattle.target_contexts.specs.TargetsValue.{TargetsValue}
use Rattle.target_contexts.specs.Threads.{count_in}
use Rattle.run_control.specs.Asking.{children_fault, children_named, context_answer, context_fault, data_named, process_answer, process_fault, processes_fault, processes_named, state_answer, state_fault}
use Rattle.run_control.specs.Attaching.{attach_after, attach_events, attach_fault, detach_after, detach_events, detach_fault, process_there, start_events, start_fault}
use Rattle.run_control.specs.Ending.{end_after, end_events, terminate_fault}
use Rattle.run_control.specs.Naming.{process_named}
use Rattle.run_control.specs.Steering.{left_by, resume_after, resume_fault, suspend_after, suspend_events, suspend_fault, thread_there}
use Rattle.run_control.specs.TargetValue.{TargetValue, target_by, with_contexts}
use Rattle.run_control.specs.Telling.{resumed_events}
use Rattle.run_control.specs.Tracing.{trace_addresses, trace_after, trace_events, trace_fault}

-- a command of RunControl, Processes or Trace
abbrev pub is_run : Command → Bool
is_run (GetContext id) = true
is_run (GetChildren id) = true
is_run (GetState id) = true
is_run (Resume id mode count) = true
is_run (Suspend id) = true
is_run (Terminate id) = true
is_run (ProcContext id) = true
is_run (ProcChildren id attached) = true
is_run (ProcStart directory file args environment attach) = true
is_run (ProcAttach id) = true
is_run (ProcDetach id) = true
is_run (ProcTerminate id) = true
is_run (TraceRun id count) = true
is_run _ = false

-- one that is answered by nothing but events
abbrev pub is_told : Command → Bool
is_told (Resume id mode count) = true
is_told (Suspend id) = true
is_told (Terminate id) = true
is_told (ProcAttach id) = true
is_told (ProcDetach id) = true
is_told (ProcTerminate id) = true
is_told _ = false

-- the code of a process that is terminated
abbrev pub terminate_code : ℤ
terminate_code = neg_ℤ (pos 1)

-- ---- the first check that fails

abbrev pub run_fault : Command → TargetsValue → Option Fault
run_fault (GetContext id) targets = context_fault id targets.processes
run_fault (GetChildren id) targets = children_fault id targets.processes
run_fault (GetState id) targets = state_fault id targets.processes
run_fault (Resume id mode count) targets = resume_fault id mode count targets.processes
run_fault (Suspend id) targets = suspend_fault id targets.processes
run_fault (Terminate id) targets = terminate_fault id targets.processes
run_fault (ProcContext id) targets = process_fault id targets.processes
run_fault (ProcChildren id attached) targets = processes_fault id targets.processes
run_fault (ProcStart directory file args environment attach) targets = start_fault file targets
run_fault (ProcAttach id) targets = attach_fault id targets.processes
run_fault (ProcDetach id) targets = detach_fault id targets.processes
run_fault (ProcTerminate id) targets = process_fault id targets.processes
run_fault (TraceRun id count) targets = trace_fault id count targets.processes
run_fault _ targets = None

-- ---- what it leaves where no check fails

-- what is changed as that of a process's number, or of a thread, where a text names one
abbrev pub left_of : {A T : Type 0} → (A → T → T) → Option A → T → T
left_of change named before = option_map_or (λ one. change one before) named before

abbrev pub run_left : Command → TargetValue → TargetValue
run_left (Resume id mode count) target =
    with_contexts (left_of (λ pair. resume_after (left_by mode count) pair.0 pair.1) (thread_named id)) target
run_left (Suspend id) target = with_contexts (left_of (λ pair. suspend_after pair.0 pair.1) (thread_named id)) target
run_left (Terminate id) target = left_of end_after (number_named id) target
run_left (ProcStart directory file args environment attach) target = with_contexts (started file attach) target
run_left (ProcAttach id) target = left_of attach_after (process_named id) target
run_left (ProcDetach id) target = left_of detach_after (process_named id) target
run_left (ProcTerminate id) target = left_of end_after (process_named id) target
run_left (TraceRun id count) target =
    left_of (λ pair. trace_after (unsigned_abs count) pair.0 pair.1) (thread_named id) target
run_left _ target = target

-- ---- what it gives where no check fails, from the target before it and the target after it

-- the events of a process's number, or of a thread, where a text names one
abbrev pub events_of : {A : Type 0} → (A → List EventData) → Option A → List EventData
events_of events named = option_map_or events named []

-- those of the end of a process that is terminated
abbrev pub terminate_events : ℕ → TargetValue → TargetValue → List EventData
terminate_events number target after =
    end_events number (count_in (process_of number target.contexts.processes)) terminate_code after

abbrev pub trace_given : ℕ → Option (ℕ × ℕ) → TargetValue → TargetValue → Effect
trace_given count None target after = gives (answers.Count 0)
trace_given count (Some pair) target after =
    let addresses = trace_addresses count pair.0 pair.1 target in
    record { events = trace_events count pair.0 pair.1 target after; progress = addresses; answer = answers.Count (length addresses) }

abbrev pub run_given : Command → TargetValue → TargetValue → Effect
run_given (GetContext id) target after = gives (context_answer (data_named id target.contexts.processes))
run_given (GetChildren id) target after = gives (answers.Ids (children_named id target.contexts.processes))
run_given (GetState id) target after = gives (state_answer (thread_there id target.contexts.processes))
run_given (Resume id mode count) target after =
    tells (events_of (λ pair. resumed_events pair.0 pair.1) (thread_named id)) answers.Nothing
run_given (Suspend id) target after =
    tells (events_of (λ pair. suspend_events pair.0 pair.1 after.contexts) (thread_named id)) answers.Nothing
run_given (Terminate id) target after =
    tells (events_of (λ number. terminate_events number target after) (number_named id)) answers.Nothing
run_given (ProcContext id) target after = gives (process_answer (process_named id) target.contexts.processes)
run_given (ProcChildren id attached) target after = gives (answers.Ids (processes_named id attached target.contexts.processes))
run_given (ProcStart directory file args environment attach) target after =
    tells (start_events target.contexts.next after) (process_answer (Some target.contexts.next) after.contexts.processes)
run_given (ProcAttach id) target after =
    tells (events_of (λ number. attach_events number after) (process_named id)) answers.Nothing
run_given (ProcDetach id) target after =
    tells (events_of (λ number. detach_events (process_there id target.contexts.processes) number after) (process_named id)) answers.Nothing
run_given (ProcTerminate id) target after =
    tells (events_of (λ number. terminate_events number target after) (process_named id)) answers.Nothing
run_given (TraceRun id count) target after = trace_given (unsigned_abs count) (thread_named id) target after
run_given _ target after = gives answers.Nothing

-- ---- a command that fails gives its report alone, and changes nothing

-- the events, the progress and the answer of a command
abbrev pub run_effect : Command → TargetValue → Effect
run_effect command target = effect_by (run_fault command target.contexts) (run_given command target (run_left command target))

-- the target after a command
abbrev pub run_after : Command → TargetValue → TargetValue
run_after command target = target_by (run_fault command target.contexts) (run_left command target) target
