-- Start, attach and detach (TCF service Processes): their checks, what they leave and what they tell of the target after
-- them.
use Rattle.std.specs.Prelude.{ℕ, true, false, List, [], ◌∷◌, ◌++◌, map, Option, None, is_none, option_map}
use Rattle.tcf_values.specs.Faults.{first_fault}
use Rattle.tcf_values.specs.declared.event.EventData.{EventData}
use Rattle.tcf_values.specs.declared.faults.Fault.{Fault}
use Rattle.tcf_values.specs.declared.faults.Fault.TheVariants.{Other, AlreadyAttached, BadContext, BadSize}
use Rattle.target_contexts.specs.Changes.{with_change}
use Rattle.target_contexts.specs.Live.{process_of}
use Rattle.target_contexts.specs.Named.{is_attached, is_unattached, process_at_number}
use Rattle.target_contexts.specs.Starting.{refusal_of, suspended_text}
use Rattle.target_contexts.specs.TargetsValue.{TargetsValue}
use Rattle.target_contexts.specs.ProcessValue.{ProcessValue}
use Rattle.target_contexts.specs.declared.process.ThreadState.TheVariants.{Running, Suspended}
use Rattle.target_contexts.specs.declared.process.ThreadState.{ThreadState}
use Rattle.target_contexts.specs.declared.targets.StartRefusal.{StartRefusal}
use Rattle.target_contexts.specs.declared.targets.StartRefusal.TheVariants as refusals
use Rattle.run_control.specs.Naming.{process_named}
use Rattle.run_control.specs.Steering.{with_state}
use Rattle.run_control.specs.TargetValue.{TargetValue, with_contexts, without_counts}
use Rattle.run_control.specs.Telling.{added_events, all_resumed_events, all_suspended_events, changed_events, statuses_in}

-- the live process that a text names
abbrev pub process_there : List ℕ → List (ℕ × ProcessValue) → Option ProcessValue
process_there id rows = process_at_number (process_named id) rows

-- ---- start: the process gets the next number

-- no image of that name, too many live, an ELF file with a fault, no number left: other. An image that is too large:
-- bad-size
abbrev pub start_fault_for : StartRefusal → Fault
start_fault_for refusals.NoImage = Other
start_fault_for refusals.Full = Other
start_fault_for refusals.Size = BadSize
start_fault_for refusals.Bad = Other
start_fault_for refusals.Numbers = Other
start_fault_for refusals.NoMemory = Other

abbrev pub start_fault : List ℕ → TargetsValue → Option Fault
start_fault file targets = option_map start_fault_for (refusal_of file targets)

abbrev pub start_events : ℕ → TargetValue → List EventData
start_events number target =
    let process = process_of number target.contexts.processes in
    added_events number process ++ (all_suspended_events number process ++ statuses_in target)

-- ---- all threads of a process have another state

abbrev pub with_states : ThreadState → ProcessValue → ProcessValue
with_states state process = record process { threads = map (with_state state) process.threads }

-- ---- attach: the threads are suspended, and the counts of hits in the process are dropped

abbrev pub attach_fault : List ℕ → List (ℕ × ProcessValue) → Option Fault
attach_fault id rows = first_fault (
    (is_none (process_there id rows), BadContext)
    ∷ (is_attached (process_there id rows), AlreadyAttached)
    ∷ [])

abbrev pub attached : ProcessValue → ProcessValue
attached process = record (with_states (Suspended suspended_text []) process) { attached = true }

abbrev pub attach_after : ℕ → TargetValue → TargetValue
attach_after number target = without_counts number (with_contexts (with_change attached number) target)

abbrev pub attach_events : ℕ → TargetValue → List EventData
attach_events number target =
    let process = process_of number target.contexts.processes in
    changed_events number process ++ (all_suspended_events number process ++ statuses_in target)

-- ---- detach: the threads run, instructions left to step are forgotten, and the counts of hits in the process are dropped

abbrev pub detach_fault : List ℕ → List (ℕ × ProcessValue) → Option Fault
detach_fault id rows = first_fault (
    (is_none (process_there id rows), BadContext)
    ∷ (is_unattached (process_there id rows), Other)
    ∷ [])

abbrev pub detached : ProcessValue → ProcessValue
detached process = record (with_states (Running None) process) { attached = false }

abbrev pub detach_after : ℕ → TargetValue → TargetValue
detach_after number target = without_counts number (with_contexts (with_change detached number) target)

-- contextResumed of each thread that was suspended
abbrev pub detach_events : Option ProcessValue → ℕ → TargetValue → List EventData
detach_events was number target =
    changed_events number (process_of number target.contexts.processes)
    ++ (all_resumed_events number was ++ statuses_in target)
