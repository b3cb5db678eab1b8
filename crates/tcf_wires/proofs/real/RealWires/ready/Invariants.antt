use Rattle.std.proofs.Common.{◌≡◌}
use Rattle.tcf_wires.proofs.real.RealWires.ready.Given as goal

-- the places so far gave nothing, so no number was given and nothing failed
abbrev pub invariant-loop-step : goal.invariant-loop-step
invariant-loop-step g l = l.self ≡ l.initial.self
