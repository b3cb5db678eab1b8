use Rattle.std.proofs.Common.{length}
use Rattle.log_check.specs.Sorts.{as_accepted}
use Rattle.log_check.proofs.Ears.{EventsSo}
use Rattle.log_check.proofs.order.Listener.hear_events.Given as goal

abbrev pub invariant-loop-event : goal.invariant-loop-event
invariant-loop-event l = EventsSo (as_accepted l.self.commands.now) l.position l.events l.left l.lines l.rest

abbrev pub decreases-loop-event : goal.decreases-loop-event
decreases-loop-event l = length l.left
