use Rattle.std.proofs.Common.{length}
use Rattle.link_pool.specs.Lists.{rows_of}
use Rattle.block_store.specs.Walks.{fits, rows_from}
use Rattle.block_store.proofs.Walked.{Looks}
use Rattle.block_store.proofs.filing.last_wanted.Given as goal

abbrev pub invariant-loop-at : goal.invariant-loop-at
invariant-loop-at l = Looks (fits l.wanted) l.at l.found (rows_of l.list l.pool.lists)

abbrev pub decreases-loop-at : goal.decreases-loop-at
decreases-loop-at l = length (rows_from l.at (rows_of l.list l.pool.lists))
