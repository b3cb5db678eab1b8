use Rattle.std.proofs.Common.{◌≡◌, ◌++◌, drop}
use Rattle.target_hub.specs.BreakpointsRows.{status_events}
use Rattle.target_hub.proofs.breakpoints_rows.tell_statuses.Given as goal

-- the events so far, and the statuses of those that are left
abbrev pub invariant-loop-props : goal.invariant-loop-props
invariant-loop-props l = l.events ++ status_events l.attached (drop l.props-index l.list) ≡ l.initial.events ++ status_events l.attached l.list
