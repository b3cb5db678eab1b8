use Rattle.std.proofs.Common.{◌≡◌, ◌++◌}
use Rattle.breakpoints.specs.Changes.{switched}
use Rattle.breakpoints.proofs.breakpoints.Breakpoints.switched.Given as goal

-- those so far, and those among the breakpoints that are left
abbrev pub invariant-loop-row : goal.invariant-loop-row
invariant-loop-row l = l.list ++ switched l.enabled l.ids l.row-iterator ≡ switched l.enabled l.ids l.self
