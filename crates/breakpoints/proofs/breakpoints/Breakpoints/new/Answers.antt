use Rattle.std.proofs.Common.{[], arith}
use Rattle.std.specs.List.{IsDistinct}
use Rattle.breakpoints.specs.Keyed.{IsKept}
use Rattle.breakpoints.proofs.Indexing.{none_indexed}
use Rattle.breakpoints.proofs.breakpoints.Breakpoints.new.Goals as goal

none_kept : IsKept []
unfolding IsDistinct
none_kept = record { keyed = tt; orderly = record { differ = tt; few = omega arith; counted = tt } }

-- a map without entries
pub invariant_of-result : goal.invariant_of-result
invariant_of-result c = none_indexed _ _ none_kept c.new.ensures.empty c.empty_index.ensures
