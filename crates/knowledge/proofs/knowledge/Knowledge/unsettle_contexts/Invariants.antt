use Rattle.std.proofs.Common.{drop}
use Rattle.knowledge.specs.Changes.{of_each}
use Rattle.knowledge.specs.Rows.{unsettled}
use Rattle.knowledge.proofs.Steps.{IsLeft}
use Rattle.knowledge.proofs.knowledge.Knowledge.unsettle_contexts.Given as goal

-- what is left to be done
abbrev pub invariant-loop-context : goal.invariant-loop-context
invariant-loop-context l = IsLeft (of_each unsettled (drop l.context-index l.list)) (of_each unsettled l.list) l.self l.initial.self
