use Rattle.std.proofs.Common.{◌≡◌, ◌++◌, drop}
use Rattle.breakpoints.specs.Counting.{listed}
use Rattle.breakpoints.specs.Statuses.{statuses_of}
use Rattle.breakpoints.proofs.breakpoints.Breakpoints.add_statuses_of.Given as goal

-- the events so far, and the statuses of the breakpoints whose IDs are left
abbrev pub invariant-loop-id : goal.invariant-loop-id
invariant-loop-id l =
    l.events ++ statuses_of l.attached (listed (drop l.id-index l.ids) l.self) ≡ l.initial.events ++ statuses_of l.attached (listed l.ids l.self)
