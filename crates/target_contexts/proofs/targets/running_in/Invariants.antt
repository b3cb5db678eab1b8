use Rattle.std.proofs.Common.{◌≡◌, ◌++◌, drop}
use Rattle.target_contexts.specs.Kept.{seen_rows}
use Rattle.target_contexts.specs.Named.{running_rows}
use Rattle.target_contexts.proofs.targets.running_in.Given as goal

-- those so far, and those of the rows that are left
abbrev pub invariant-loop-row : goal.invariant-loop-row
invariant-loop-row l = l.running.items ++ running_rows (seen_rows (drop l.row-index l.live)) ≡ running_rows (seen_rows l.live)
