use Rattle.std.proofs.Common.{◌≡◌, length}
use Rattle.log_check.specs.Heard.{owed_in}
use Rattle.log_check.specs.Sorts.{as_accepted}
use Rattle.log_check.proofs.messages.next_owed.Given as goal

abbrev pub invariant-loop-rest : goal.invariant-loop-rest
invariant-loop-rest l = owed_in (as_accepted l.commands) l.lines ≡ owed_in (as_accepted l.commands) l.rest

abbrev pub decreases-loop-rest : goal.decreases-loop-rest
decreases-loop-rest l = length l.rest
