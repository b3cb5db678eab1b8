use Rattle.std.proofs.Common.{◌≡◌, ◌++◌, take, drop, length}
use Rattle.breakpoints.specs.Counting.{row_without}
use Rattle.breakpoints.specs.Keyed.{with_values}
use Rattle.breakpoints.proofs.tally.forget.Given as goal

-- those so far are changed, and the others are left to be changed
abbrev pub invariant-loop-index : goal.invariant-loop-index
invariant-loop-index l = record {
  changed : take l.index l.rows.entries ++ with_values (row_without l.process) (drop l.index l.rows.entries) ≡ with_values (row_without l.process) l.initial.rows.entries;
  same : length l.rows.entries ≡ length l.initial.rows.entries;
}
