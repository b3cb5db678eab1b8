use Rattle.std.proofs.Common.{◌≡◌, take}
use Rattle.std.specs.Map.{values_of}
use Rattle.breakpoints.specs.Keyed.{AreKeyed}
use Rattle.breakpoints.specs.Rows.{rows_for}
use Rattle.breakpoints.proofs.rows.keyed.Given as goal

-- the breakpoints so far, each under its ID
abbrev pub invariant-loop-props : goal.invariant-loop-props
invariant-loop-props l = record {
  rows : values_of l.rows.entries ≡ rows_for l.channel (take l.props-index l.list);
  keyed : AreKeyed l.rows.entries;
}
