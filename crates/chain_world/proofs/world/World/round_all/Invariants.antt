use Rattle.std.proofs.Common.{◌≡◌, ◌-◌}
use Rattle.chain_world.specs.World.{round_all}
use Rattle.chain_world.proofs.world.World.round_all.Given as goal

abbrev pub invariant-loop-at : goal.invariant-loop-at
invariant-loop-at l = round_all l.count 0 l.initial.self ≡ round_all (l.count - l.at) l.at l.self
