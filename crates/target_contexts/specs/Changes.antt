-- The target with one process changed, and after a command.
use Rattle.std.specs.Prelude.{ℕ, Option, Some, None}
use Rattle.tcf_values.specs.declared.faults.Fault.{Fault}
use Rattle.target_contexts.specs.Live.{process_of, with_process}
use Rattle.target_contexts.specs.TargetsValue.{TargetsValue}
use Rattle.target_contexts.specs.ProcessValue.{ProcessValue}

abbrev pub with_change_at : (ProcessValue → ProcessValue) → ℕ → Option ProcessValue → TargetsValue → TargetsValue
with_change_at change number None targets = targets
with_change_at change number (Some process) targets =
    record targets { processes = with_process number (change process) targets.processes }

-- the live process of this number is changed; where there is none, nothing is
abbrev pub with_change : (ProcessValue → ProcessValue) → ℕ → TargetsValue → TargetsValue
with_change change number targets = with_change_at change number (process_of number targets.processes) targets

-- the process of a number, where there is a number
abbrev pub with_change_of : (ProcessValue → ProcessValue) → Option ℕ → TargetsValue → TargetsValue
with_change_of change None targets = targets
with_change_of change (Some number) targets = with_change change number targets

-- the target that a command leaves, or the target before it where a check fails
abbrev pub targets_by : Option Fault → TargetsValue → TargetsValue → TargetsValue
targets_by None left targets = left
targets_by (Some fault) left targets = targets
