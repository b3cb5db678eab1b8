use Rattle.breakpoints.specs.Selecting.{unselected}
use Rattle.breakpoints.proofs.Indexing.{Covers}
use Rattle.breakpoints.proofs.breakpoints.Breakpoints.index_without.Given as goal

-- the index of the first ones, and those that are left
abbrev pub invariant-loop-row : goal.invariant-loop-row
invariant-loop-row l = Covers l.index (unselected l.leaving l.row-iterator) (unselected l.leaving l.self)
