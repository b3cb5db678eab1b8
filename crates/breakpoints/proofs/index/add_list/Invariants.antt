use Rattle.std.proofs.Common.{ℕ, take}
use Rattle.breakpoints.specs.Indexed.{AddsRows}
use Rattle.breakpoints.specs.Rows.{rows_for}
use Rattle.breakpoints.proofs.index.add_list.Given as goal

-- the first ones are added
abbrev pub invariant-loop-props : goal.invariant-loop-props
invariant-loop-props l = (channel : ℕ) → AddsRows l.initial.index l.index (rows_for channel (take l.props-index l.list))
