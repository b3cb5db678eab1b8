use Rattle.std.proofs.Common.{◌≡◌, drop}
use Rattle.chain_route.specs.Passing.{parts_came}
use Rattle.chain_route.proofs.passing.come.Given as goal

-- the parts that are left come to the same
abbrev pub invariant-loop-part : goal.invariant-loop-part
invariant-loop-part l = parts_came l.side (drop l.part-index l.parts) l.add ≡ parts_came l.side l.parts l.initial.add
