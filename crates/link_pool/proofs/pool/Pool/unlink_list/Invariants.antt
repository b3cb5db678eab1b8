use Rattle.std.proofs.Common.{length}
use Rattle.link_pool.specs.Lists.{rows_of}
use Rattle.link_pool.proofs.Clearing.{Clears}
use Rattle.link_pool.proofs.pool.Pool.unlink_list.Given as goal

abbrev pub invariant-loop-key : goal.invariant-loop-key
invariant-loop-key g l = Clears l.list l.fn.self l.self

abbrev pub decreases-loop-key : goal.decreases-loop-key
decreases-loop-key g l = length (rows_of l.list l.self.lists)
