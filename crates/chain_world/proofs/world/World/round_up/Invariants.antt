use Rattle.std.proofs.Common.{◌≡◌, ◌-◌}
use Rattle.chain_world.specs.World.{adds_rounded}
use Rattle.chain_world.proofs.world.World.round_up.Given as goal

abbrev pub invariant-loop-add : goal.invariant-loop-add
invariant-loop-add l = adds_rounded l.adds 0 l.at l.initial.self ≡ adds_rounded (l.adds - l.add) l.add l.at l.self
