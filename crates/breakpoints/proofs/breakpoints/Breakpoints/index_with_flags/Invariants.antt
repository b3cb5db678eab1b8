use Rattle.breakpoints.specs.Changes.{with_flags}
use Rattle.breakpoints.proofs.Indexing.{Covers}
use Rattle.breakpoints.proofs.breakpoints.Breakpoints.index_with_flags.Given as goal

-- the index of the first ones, and those that are left
abbrev pub invariant-loop-row : goal.invariant-loop-row
invariant-loop-row l = Covers l.index (with_flags l.enabled l.ids l.row-iterator) (with_flags l.enabled l.ids l.self)
