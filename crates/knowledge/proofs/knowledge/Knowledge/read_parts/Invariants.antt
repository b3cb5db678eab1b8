use Rattle.std.proofs.Common.{drop}
use Rattle.knowledge.specs.Rows.{parts_read}
use Rattle.knowledge.proofs.Steps.{IsLeft}
use Rattle.knowledge.proofs.knowledge.Knowledge.read_parts.Given as goal

-- what is left to be done, with the bytes that are left
abbrev pub invariant-loop-location : goal.invariant-loop-location
invariant-loop-location l = IsLeft (parts_read (drop l.location-index l.list) l.rest) (parts_read l.list l.bytes) l.self l.initial.self
