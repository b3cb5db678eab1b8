use Rattle.std.proofs.Common.{◌≡◌, drop}
use Rattle.target_contexts.specs.Kept.{seen_rows}
use Rattle.target_contexts.specs.Named.{has_running}
use Rattle.target_contexts.proofs.targets.has_running_in.Given as goal

-- none of the rows so far has one that runs
abbrev pub invariant-loop-row : goal.invariant-loop-row
invariant-loop-row l = has_running (seen_rows (drop l.row-index l.live)) ≡ has_running (seen_rows l.live)
