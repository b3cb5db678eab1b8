use Rattle.std.proofs.Common.{◌≡◌, ◌-◌}
use Rattle.chain_world.specs.World.{repeated, turn_of_add}
use Rattle.chain_world.proofs.world.World.round_add.Given as goal

abbrev pub invariant-loop-counter : goal.invariant-loop-counter
invariant-loop-counter l = repeated l.waiting (turn_of_add l.at l.add l.side) l.initial.self ≡ repeated (l.waiting - l.counter) (turn_of_add l.at l.add l.side) l.self
