use Rattle.std.proofs.Common.{◌≡◌, ◌-◌}
use Rattle.hub_serving.proofs.Collecting.{kept_from}
use Rattle.hub_serving.proofs.gathering.forget_closed.Given as goal

-- from the last line on those of closed sides are forgotten
abbrev pub invariant-loop-done : goal.invariant-loop-done
invariant-loop-done l = l.lines ≡ kept_from l.hub (l.count - l.done) l.initial.lines
