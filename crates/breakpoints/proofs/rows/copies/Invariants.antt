use Rattle.std.proofs.Common.{◌≡◌, take}
use Rattle.breakpoints.proofs.rows.copies.Given as goal

-- the properties so far
abbrev pub invariant-loop-props : goal.invariant-loop-props
invariant-loop-props l = l.made ≡ take l.props-index l.list
