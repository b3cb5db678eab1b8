use Rattle.std.proofs.Common.{◌≡◌, ◌<◌, ℕ, true, is_some}
use Rattle.link_pool.specs.Rows.{first_key}
use Rattle.link_pool.specs.Lists.{rows_of}
use Rattle.block_store.proofs.filing.free_list.Given as goal

abbrev pub invariant-loop-list : goal.invariant-loop-list
invariant-loop-list l = (k : ℕ) → 0 < k → k < l.list → is_some (first_key (rows_of k l.pool.lists)) ≡ true
