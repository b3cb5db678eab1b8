use Rattle.std.proofs.Common.{◌≡◌, ◌++◌}
use Rattle.breakpoints.specs.Statuses.{statuses_of}
use Rattle.breakpoints.proofs.breakpoints.Breakpoints.add_statuses.Given as goal

-- the events so far, and the statuses of the breakpoints that are left
abbrev pub invariant-loop-row : goal.invariant-loop-row
invariant-loop-row l = l.events ++ statuses_of l.attached l.row-iterator ≡ l.initial.events ++ statuses_of l.attached l.self
