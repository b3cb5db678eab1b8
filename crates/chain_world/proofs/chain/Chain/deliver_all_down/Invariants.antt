use Rattle.std.proofs.Common.{◌≡◌}
use Rattle.chain_world.specs.Chain.{all_down}
use Rattle.chain_route.specs.Lane.{size_in}
use Rattle.chain_route.specs.Route.{flight_down}
use Rattle.chain_world.proofs.chain.Chain.deliver_all_down.Given as goal

abbrev pub invariant-loop-self : goal.invariant-loop-self
invariant-loop-self l = all_down l.self ≡ all_down l.initial.self

abbrev pub decreases-loop-self : goal.decreases-loop-self
decreases-loop-self l = size_in (flight_down l.self.route)
