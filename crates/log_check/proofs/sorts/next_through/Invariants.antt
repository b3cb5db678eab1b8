use Rattle.std.proofs.Common.{◌≡◌, ◌-◌, drop, length}
use Rattle.std.specs.Prelude.{filter}
use Rattle.log_check.specs.Sorts.{passes}
use Rattle.log_check.proofs.sorts.next_through.Given as goal

abbrev pub invariant-loop-command : goal.invariant-loop-command
invariant-loop-command l = filter passes (drop l.done l.commands) ≡ filter passes (drop l.at l.commands)

abbrev pub decreases-loop-command : goal.decreases-loop-command
decreases-loop-command l = length l.commands - l.at
