use Rattle.breakpoints.specs.Changes.{with_props}
use Rattle.breakpoints.proofs.Indexing.{Covers}
use Rattle.breakpoints.proofs.breakpoints.Breakpoints.index_with_props.Given as goal

-- the index of the first ones, and those that are left
abbrev pub invariant-loop-row : goal.invariant-loop-row
invariant-loop-row l = Covers l.index (with_props l.props l.row-iterator) (with_props l.props l.self)
