use Rattle.std.proofs.Common.{length}
use Rattle.breakpoints.proofs.tally.+raise.Given as goal

-- the IDs that are left
abbrev pub decreases-raise : goal.decreases-raise
decreases-raise l = length l.ids.now
