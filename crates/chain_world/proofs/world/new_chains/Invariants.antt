use Rattle.std.proofs.Common.{◌≡◌, take}
use Rattle.chain_world.specs.World.{adds_of, new_chains}
use Rattle.chain_world.proofs.world.new_chains.Given as goal

abbrev pub invariant-loop-head : goal.invariant-loop-head
invariant-loop-head l = l.chains.items ≡ new_chains (adds_of (take l.head-index l.heads))
