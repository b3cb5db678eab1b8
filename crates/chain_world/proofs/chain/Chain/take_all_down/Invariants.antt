use Rattle.std.proofs.Common.{◌≡◌, ◌-◌}
use Rattle.chain_world.specs.Chain.{turns_down}
use Rattle.chain_world.proofs.chain.Chain.take_all_down.Given as goal

abbrev pub invariant-loop-counter : goal.invariant-loop-counter
invariant-loop-counter l = turns_down l.waiting l.initial.self ≡ turns_down (l.waiting - l.counter) l.self
