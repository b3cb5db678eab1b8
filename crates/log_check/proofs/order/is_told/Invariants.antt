use Rattle.std.proofs.Common.{◌+◌, ◌≤◌, length}
use Rattle.log_check.specs.Sorts.{as_accepted}
use Rattle.log_check.proofs.Standing.{Stands}
use Rattle.log_check.proofs.order.is_told.Given as goal

abbrev pub invariant-loop-input : goal.invariant-loop-input
invariant-loop-input l =
    record {
      stands : Stands l.images l.listener.channel (as_accepted l.listener.commands.now) l.inputs l.left l.lines l.rest l.opened l.closed l.position l.hub;
      counted : l.position + length l.left ≤ length l.inputs;
    }

abbrev pub decreases-loop-input : goal.decreases-loop-input
decreases-loop-input l = length l.left
