use Rattle.std.proofs.Common.{drop}
use Rattle.knowledge.specs.Changes.{of_each}
use Rattle.knowledge.specs.Rows.{hit_breakpoint}
use Rattle.knowledge.proofs.Steps.{IsLeft}
use Rattle.knowledge.proofs.knowledge.Knowledge.drop_hits.Given as goal

-- what is left to be done
abbrev pub invariant-loop-id : goal.invariant-loop-id
invariant-loop-id l = IsLeft (of_each hit_breakpoint (drop l.id-index l.hits)) (of_each hit_breakpoint l.hits) l.self l.initial.self
