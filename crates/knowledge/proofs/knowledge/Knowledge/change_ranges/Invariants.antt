use Rattle.std.proofs.Common.{drop}
use Rattle.knowledge.specs.Changes.{of_each}
use Rattle.knowledge.specs.Rows.{changed_range}
use Rattle.knowledge.proofs.Steps.{IsLeft}
use Rattle.knowledge.proofs.knowledge.Knowledge.change_ranges.Given as goal

-- what is left to be done
abbrev pub invariant-loop-range : goal.invariant-loop-range
invariant-loop-range l = IsLeft (of_each (changed_range l.process) (drop l.range-index l.list)) (of_each (changed_range l.process) l.list) l.self l.initial.self
