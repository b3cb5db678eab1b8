use Rattle.std.proofs.Common.{◌≡◌, ◌++◌, take, drop, length}
use Rattle.breakpoints.specs.Changes.{row_with_flag}
use Rattle.breakpoints.specs.Keyed.{with_values}
use Rattle.breakpoints.proofs.rows.set_flags.Given as goal

-- those so far are changed, and the others are left to be changed
abbrev pub invariant-loop-index : goal.invariant-loop-index
invariant-loop-index l = record {
  changed : take l.index l.rows.entries ++ with_values (row_with_flag l.enabled l.ids) (drop l.index l.rows.entries) ≡ with_values (row_with_flag l.enabled l.ids) l.initial.rows.entries;
  same : length l.rows.entries ≡ length l.initial.rows.entries;
}
