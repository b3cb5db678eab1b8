use Rattle.std.proofs.Common.{◌≡◌, take}
use Rattle.target_contexts.specs.Kept.{seen_rows}
use Rattle.target_contexts.specs.Live.{numbers_of}
use Rattle.target_contexts.proofs.targets.numbers_in.Given as goal

-- the numbers of the rows so far
abbrev pub invariant-loop-row : goal.invariant-loop-row
invariant-loop-row l = l.numbers.items ≡ numbers_of (seen_rows (take l.row-index l.live))
