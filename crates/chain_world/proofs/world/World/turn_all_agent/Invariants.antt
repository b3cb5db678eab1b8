use Rattle.std.proofs.Common.{◌≡◌, ◌-◌}
use Rattle.chain_world.specs.World.{repeated, turn_of_agent}
use Rattle.chain_world.proofs.world.World.turn_all_agent.Given as goal

abbrev pub invariant-loop-counter : goal.invariant-loop-counter
invariant-loop-counter l = repeated l.waiting (turn_of_agent l.at) l.initial.self ≡ repeated (l.waiting - l.counter) (turn_of_agent l.at) l.self
