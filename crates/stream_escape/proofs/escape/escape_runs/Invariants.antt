use Rattle.std.proofs.Common.{◌≡◌, ◌++◌, length}
use Rattle.stream_escape.specs.Stream.{escaped}
use Rattle.stream_escape.proofs.escape.escape_runs.Given as goal

-- what is written and the rest, escaped, are the whole
abbrev pub invariant-loop-place : goal.invariant-loop-place
invariant-loop-place l = l.out ++ escaped l.rest ≡ l.fn.out ++ escaped l.message

abbrev pub decreases-loop-place : goal.decreases-loop-place
decreases-loop-place l = length l.rest
