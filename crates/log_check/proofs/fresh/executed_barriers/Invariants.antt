use Rattle.std.proofs.Common.{◌≡◌, ◌+◌, ◌≤◌, List, drop, length}
use Rattle.std.specs.Prelude.{filter}
use Rattle.std.specs.List.{AllByRecursion}
use Rattle.journal_text.specs.Inputs.{InputIsRead}
use Rattle.tcf_text.specs.declared.log.LogLine.{LogLine}
use Rattle.target_hub.specs.Ordered.{through}
use Rattle.log_check.specs.Sorts.{as_accepted, passes}
use Rattle.log_check.proofs.Ending.{BarriersSo}
use Rattle.log_check.proofs.fresh.executed_barriers.Given as goal

abbrev pub invariant-loop-input : goal.invariant-loop-input
invariant-loop-input l =
    record {
      so : (log : List LogLine) → as_accepted (filter passes l.commands) ≡ through log → BarriersSo log l.inputs l.left l.channel l.commands (drop l.done l.commands) l.place l.found.items;
      read : AllByRecursion InputIsRead l.left;
      counted : l.place + length l.left ≤ length l.inputs;
    }

abbrev pub decreases-loop-input : goal.decreases-loop-input
decreases-loop-input l = length l.left
