use Rattle.std.proofs.Common.{drop}
use Rattle.knowledge.specs.Changes.{of_each}
use Rattle.knowledge.specs.Rows.{told_properties}
use Rattle.knowledge.proofs.Steps.{IsLeft}
use Rattle.knowledge.proofs.knowledge.Knowledge.change_properties.Given as goal

-- what is left to be done
abbrev pub invariant-loop-properties : goal.invariant-loop-properties
invariant-loop-properties l = IsLeft (of_each told_properties (drop l.properties-index l.list)) (of_each told_properties l.list) l.self l.initial.self
