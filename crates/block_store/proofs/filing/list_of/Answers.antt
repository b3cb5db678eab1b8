use Rattle.std.proofs.Common.{arith, sym, ◌∙◌}
use Rattle.block_store.proofs.Spare.{list_found, list_none}
use Rattle.block_store.proofs.filing.list_of.Goals as goal

pub returns-then-is_of-clause-list : goal.returns-then-is_of-clause-list
returns-then-is_of-clause-list c =
    list_found c.args.pool.now.lists c.args.process c.loop-list.list c.requires (omega arith) (omega arith) (sym c.is_of.ensures ∙ c.if-is_of.true)

pub returns-clause-none : goal.returns-clause-none
returns-clause-none c =
    list_none c.args.pool.now.lists c.args.process c.requires (λ k inside below. c.loop-list.invariant k inside (omega arith))
