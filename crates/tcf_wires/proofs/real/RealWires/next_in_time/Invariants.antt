use Rattle.std.proofs.Common.{◌≡◌}
use Rattle.tcf_wires.proofs.real.RealWires.next_in_time.Given as goal

-- nothing came so far, so no number was given and nothing failed
abbrev pub invariant-loop : goal.invariant-loop
invariant-loop g l = l.self ≡ l.initial.self
