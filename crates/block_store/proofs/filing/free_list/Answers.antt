use Rattle.std.proofs.Common.{arith}
use Rattle.link_pool.specs.Lists.{rows_of}
use Rattle.block_store.proofs.Spare.{empty_none, never_full}
use Rattle.block_store.proofs.filing.free_list.Goals as goal

pub returns-then-is_none-clause-empty : goal.returns-then-is_none-clause-empty
returns-then-is_none-clause-empty c =
    empty_none (rows_of c.loop-list.list c.args.pool.now.lists) c.first.result c.is_none.result c.first.ensures.value c.is_none.ensures c.if-is_none.true

pub unreachable-requires : goal.unreachable-requires
unreachable-requires c =
    never_full c.args.pool.now.lists c.requires.owners c.requires.few (λ k inside below. c.loop-list.invariant k inside (omega arith))
