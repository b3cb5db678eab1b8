use Rattle.std.proofs.Common.{length}
use Rattle.log_check.proofs.Opening.{From}
use Rattle.log_check.proofs.channel.from_hello.Given as goal

abbrev pub invariant-loop-line : goal.invariant-loop-line
invariant-loop-line l = From l.lines l.rest l.from

abbrev pub decreases-loop-line : goal.decreases-loop-line
decreases-loop-line l = length l.rest
