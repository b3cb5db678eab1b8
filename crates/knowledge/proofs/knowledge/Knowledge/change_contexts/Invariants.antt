use Rattle.std.proofs.Common.{drop}
use Rattle.knowledge.specs.Changes.{of_each}
use Rattle.knowledge.specs.Rows.{changed_context}
use Rattle.knowledge.proofs.Steps.{IsLeft}
use Rattle.knowledge.proofs.knowledge.Knowledge.change_contexts.Given as goal

-- what is left to be done
abbrev pub invariant-loop-context : goal.invariant-loop-context
invariant-loop-context l = IsLeft (of_each changed_context (drop l.context-index l.list)) (of_each changed_context l.list) l.self l.initial.self
