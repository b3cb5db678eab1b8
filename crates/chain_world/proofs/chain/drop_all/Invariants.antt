use Rattle.std.proofs.Common.{◌≡◌, drop}
use Rattle.chain_world.specs.Chain.{all_dropped}
use Rattle.chain_world.proofs.chain.drop_all.Given as goal

-- the channels that are left come to the same
abbrev pub invariant-loop-k : goal.invariant-loop-k
invariant-loop-k l = all_dropped (drop l.k-index l.channels) l.agent ≡ all_dropped l.channels l.initial.agent
