use Rattle.std.proofs.Common.{◌≡◌, ◌-◌}
use Rattle.chain_world.specs.World.{rounded_down}
use Rattle.chain_world.proofs.world.World.round_down.Given as goal

abbrev pub invariant-loop-counter : goal.invariant-loop-counter
invariant-loop-counter l = rounded_down l.adds l.at l.initial.self ≡ rounded_down (l.adds - l.counter) l.at l.self
