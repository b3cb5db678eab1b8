use Rattle.std.proofs.Common.{◌≡◌, ◌++◌}
use Rattle.breakpoints.specs.Rows.{ids_of}
use Rattle.breakpoints.specs.Selecting.{selected}
use Rattle.breakpoints.proofs.breakpoints.Breakpoints.ids_of.Given as goal

-- the IDs so far, and those of the breakpoints that are left
abbrev pub invariant-loop-row : goal.invariant-loop-row
invariant-loop-row l = l.ids ++ ids_of (selected l.selection l.row-iterator) ≡ ids_of (selected l.selection l.self)
