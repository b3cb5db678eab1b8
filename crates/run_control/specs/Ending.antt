-- The end of a process: by terminate of RunControl or Processes, by an exit, or by an exception without a debugger (TCF
-- services RunControl, contextRemoved, and Processes, exited).
use Rattle.std.specs.Prelude.{ℕ, ℤ, List, [], ◌∷◌, ◌++◌, Option, is_none}
use Rattle.tcf_values.specs.Faults.{first_fault}
use Rattle.tcf_values.specs.declared.event.EventData.{EventData}
use Rattle.tcf_values.specs.declared.event.EventData.TheVariants as events
use Rattle.tcf_values.specs.declared.faults.Fault.{Fault}
use Rattle.tcf_values.specs.declared.faults.Fault.TheVariants.{BadContext}
use Rattle.target_contexts.specs.Live.{without}
use Rattle.target_contexts.specs.Named.{holder_named}
use Rattle.target_contexts.specs.TargetsValue.{TargetsValue}
use Rattle.target_contexts.specs.ProcessValue.{ProcessValue}
use Rattle.run_control.specs.Naming.{process_id, thread_ids}
use Rattle.run_control.specs.TargetValue.{TargetValue, with_contexts, without_counts}
use Rattle.run_control.specs.Telling.{statuses_in}

-- RunControl.terminate: a thread's ID stands for its process
abbrev pub terminate_fault : List ℕ → List (ℕ × ProcessValue) → Option Fault
terminate_fault id rows = first_fault ((is_none (holder_named id rows), BadContext) ∷ [])

abbrev pub ended : ℕ → TargetsValue → TargetsValue
ended number targets = record targets { processes = without number targets.processes }

-- the process is gone, and the counts of hits in it are dropped
abbrev pub end_after : ℕ → TargetValue → TargetValue
end_after number target = without_counts number (with_contexts (ended number) target)

-- so many threads, those that the process had before, and the process are gone, the process has exited with this code, and
-- then the statuses after the end
abbrev pub end_events : ℕ → ℕ → ℤ → TargetValue → List EventData
end_events number count code target =
    events.CtxRemoved (thread_ids number count ++ process_id number ∷ [])
    ∷ events.Exited (process_id number) code
    ∷ statuses_in target
