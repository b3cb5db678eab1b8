use Rattle.std.proofs.Common.{◌≡◌, drop}
use Rattle.chain_world.specs.Chain.{parts_delivered}
use Rattle.chain_world.proofs.chain.deliver.Given as goal

-- the parts that are left come to the same
abbrev pub invariant-loop-part : goal.invariant-loop-part
invariant-loop-part l = parts_delivered l.k (drop l.part-index l.parts) l.agent ≡ parts_delivered l.k l.parts l.initial.agent
