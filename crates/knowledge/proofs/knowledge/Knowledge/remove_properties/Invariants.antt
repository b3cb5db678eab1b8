use Rattle.std.proofs.Common.{drop}
use Rattle.knowledge.specs.Changes.{of_each}
use Rattle.knowledge.specs.Rows.{removed_properties}
use Rattle.knowledge.proofs.Steps.{IsLeft}
use Rattle.knowledge.proofs.knowledge.Knowledge.remove_properties.Given as goal

-- what is left to be done
abbrev pub invariant-loop-id : goal.invariant-loop-id
invariant-loop-id l = IsLeft (of_each removed_properties (drop l.id-index l.list)) (of_each removed_properties l.list) l.self l.initial.self
