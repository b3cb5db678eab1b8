use Rattle.std.proofs.Common.{◌≡◌, ◌++◌, drop}
use Rattle.knowledge.specs.KnowledgeValue.{facts_of}
use Rattle.knowledge.specs.Reply.{parts_bytes}
use Rattle.knowledge.proofs.knowledge.Knowledge.parts_bytes.Given as goal

-- the bytes so far and those of the parts that are left are all
abbrev pub invariant-loop-location : goal.invariant-loop-location
invariant-loop-location l =
    l.bytes ++ parts_bytes (facts_of l.self) (drop l.location-index l.list) ≡ parts_bytes (facts_of l.self) l.list
