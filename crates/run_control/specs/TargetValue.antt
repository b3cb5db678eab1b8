-- The target as contracts see it: what all channels share.
use Rattle.std.specs.Prelude.{ℕ, List, Option, Some, None}
use Rattle.breakpoints.specs.Counting.{forgotten}
use Rattle.breakpoints.specs.declared.rows.Placed.{Placed}
use Rattle.target_contexts.specs.TargetsValue.{TargetsValue}
use Rattle.tcf_values.specs.declared.faults.Fault.{Fault}

-- the live processes with the images that they are started from, and the breakpoints of all channels
pub record TargetValue : Type 0 where
  pub contexts : TargetsValue
  pub breakpoints : List Placed

-- that of these processes and these breakpoints
abbrev pub target_of : TargetsValue → List Placed → TargetValue
target_of contexts breakpoints = record { contexts = contexts; breakpoints = breakpoints }

-- the processes are changed, and no breakpoint
abbrev pub with_contexts : (TargetsValue → TargetsValue) → TargetValue → TargetValue
with_contexts change target = record target { contexts = change target.contexts }

-- the counts of hits in a process are dropped
abbrev pub without_counts : ℕ → TargetValue → TargetValue
without_counts number target = record target { breakpoints = forgotten number target.breakpoints }

-- the target that a command leaves, or the target before it where a check fails
abbrev pub target_by : Option Fault → TargetValue → TargetValue → TargetValue
target_by None left target = left
target_by (Some fault) left target = target
