use Rattle.std.proofs.Common.{drop}
use Rattle.knowledge.specs.Changes.{of_each}
use Rattle.knowledge.specs.Rows.{joined}
use Rattle.knowledge.proofs.Steps.{IsLeft}
use Rattle.knowledge.proofs.knowledge.Knowledge.join_contexts.Given as goal

-- what is left to be done
abbrev pub invariant-loop-context : goal.invariant-loop-context
invariant-loop-context l = IsLeft (of_each joined (drop l.context-index l.list)) (of_each joined l.list) l.self l.initial.self
