use Rattle.std.proofs.Common.{reverse, sym, ap, ◌∙◌}
use Rattle.std.proofs.lemmas.List.{reverse-reverse}
use Rattle.link_pool.specs.Lists.{rows_of}
use Rattle.block_store.specs.Filed.{blocks_of}
use Rattle.block_store.proofs.Owned.{is_filed}
use Rattle.block_store.proofs.store.BlockStore.pool.Goals as goal

pub returns-clause-by_use : goal.returns-clause-by_use
returns-clause-by_use c =
    sym (reverse-reverse (blocks_of (rows_of 0 c.self.inside.pool.lists))) ∙ ap reverse c.self.view_is

pub returns-clause-filed : goal.returns-clause-filed
returns-clause-filed c = is_filed c.self.inside.pool.lists c.self.invariant.owners
