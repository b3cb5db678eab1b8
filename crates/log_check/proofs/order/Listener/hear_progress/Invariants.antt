use Rattle.std.proofs.Common.{length}
use Rattle.log_check.specs.Sorts.{as_accepted}
use Rattle.log_check.proofs.Ears.{AddressesSo}
use Rattle.log_check.proofs.order.Listener.hear_progress.Given as goal

abbrev pub invariant-loop-address : goal.invariant-loop-address
invariant-loop-address l = AddressesSo (as_accepted l.self.commands.now) l.position l.addresses l.left l.lines l.rest

abbrev pub decreases-loop-address : goal.decreases-loop-address
decreases-loop-address l = length l.left
