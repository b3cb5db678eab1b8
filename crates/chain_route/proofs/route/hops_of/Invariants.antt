use Rattle.std.proofs.Common.{◌≡◌, ◌-◌, ◌++◌}
use Rattle.chain_route.specs.Route.{hops_of, more_hops}
use Rattle.chain_route.proofs.route.hops_of.Given as goal

abbrev pub invariant-loop-counter : goal.invariant-loop-counter
invariant-loop-counter l = l.hops.items ++ more_hops (l.adds - l.counter) ≡ hops_of l.adds
