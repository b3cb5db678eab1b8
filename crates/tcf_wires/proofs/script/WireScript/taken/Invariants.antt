use Rattle.std.proofs.Common.{◌≡◌, ◌++◌, drop}
use Rattle.tcf_wires.specs.Told.{taken_on}
use Rattle.tcf_wires.proofs.script.WireScript.taken.Given as goal

-- what the calls so far took stands first, and what the later ones took is to come
abbrev pub invariant-loop-call : goal.invariant-loop-call
invariant-loop-call l = taken_on l.channel l.call-items ≡ l.bytes ++ taken_on l.channel (drop l.call-index l.call-items)
