use Rattle.std.proofs.Common.{◌≡◌, ◌-◌}
use Rattle.serving_wires.proofs.Forgetting.{kept_from}
use Rattle.serving_wires.proofs.flushing.forget_shut.Given as goal

-- from the last row on those that were shut are forgotten
abbrev pub invariant-loop-done : goal.invariant-loop-done
invariant-loop-done g l = l.rows ≡ kept_from g.T.OnWire.has (l.count - l.done) l.initial.rows
