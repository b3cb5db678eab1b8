use Rattle.std.proofs.Common.{◌≡◌, ◌<◌, ℕ, false}
use Rattle.link_pool.specs.Lists.{rows_of}
use Rattle.block_store.specs.Owners.{is_owner, owner_of}
use Rattle.block_store.proofs.filing.list_of.Given as goal

abbrev pub invariant-loop-list : goal.invariant-loop-list
invariant-loop-list l = (k : ℕ) → 0 < k → k < l.list → is_owner l.process (owner_of (rows_of k l.pool.lists)) ≡ false
