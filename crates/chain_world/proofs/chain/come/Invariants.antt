use Rattle.std.proofs.Common.{◌≡◌, drop}
use Rattle.chain_world.specs.Chain.{parts_came}
use Rattle.chain_world.proofs.chain.come.Given as goal

-- the parts that are left come to the same
abbrev pub invariant-loop-part : goal.invariant-loop-part
invariant-loop-part l = parts_came (drop l.part-index l.parts) l.client ≡ parts_came l.parts l.initial.client
