use Rattle.std.proofs.Common.{◌-◌, drop, length}
use Rattle.log_check.specs.Matching.{as_read, read_as}
use Rattle.log_check.proofs.Running.{SoughtSo}
use Rattle.log_check.proofs.executed.find_sent.Given as goal

abbrev pub invariant-loop-sent : goal.invariant-loop-sent
invariant-loop-sent l = SoughtSo (read_as l.executed) (as_read (drop l.done l.commands)) (as_read (drop l.at l.commands))

abbrev pub decreases-loop-sent : goal.decreases-loop-sent
decreases-loop-sent l = length l.commands - l.at
