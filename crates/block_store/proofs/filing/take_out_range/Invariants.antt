use Rattle.std.proofs.Common.{length}
use Rattle.link_pool.specs.Lists.{rows_of}
use Rattle.block_store.specs.Blocks.{overlaps}
use Rattle.block_store.specs.Walks.{rows_from}
use Rattle.block_store.proofs.Sweeps.{Sweeps}
use Rattle.block_store.proofs.filing.take_out_range.Given as goal

abbrev pub invariant-loop-at : goal.invariant-loop-at
invariant-loop-at l = Sweeps (overlaps l.process l.addr l.size) l.process l.list l.at l.fn.pool l.pool

abbrev pub decreases-loop-at : goal.decreases-loop-at
decreases-loop-at l = length (rows_from l.at (rows_of l.list l.pool.lists))
