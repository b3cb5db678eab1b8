use Rattle.std.proofs.Common.{◌≡◌, Some}
use Rattle.chain_world.specs.Chain.{all_up}
use Rattle.chain_route.specs.Lane.{size_in}
use Rattle.chain_route.specs.Route.{flight_up}
use Rattle.chain_world.proofs.chain.Chain.deliver_all_up.Given as goal

abbrev pub invariant-loop-self : goal.invariant-loop-self
invariant-loop-self l = record {
  all : all_up l.self l.agent ≡ all_up l.initial.self l.initial.agent;
  channel : l.self.channel ≡ Some l.k;
}

abbrev pub decreases-loop-self : goal.decreases-loop-self
decreases-loop-self l = size_in (flight_up l.self.route)
