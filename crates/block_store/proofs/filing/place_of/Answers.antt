use Rattle.std.proofs.Common.{sym, ◌∙◌}
use Rattle.block_store.proofs.Stored.{range_none, range_own}
use Rattle.block_store.proofs.filing.place_of.Goals as goal

pub returns-in_err-list-clause-key : goal.returns-in_err-list-clause-key
returns-in_err-list-clause-key c =
    rw c.from_residual.ensures (sym (range_none c.args.pool.now.lists c.args.process c.args.addr c.args.size c.in_err-list.ensures.none))

pub returns-in_err-key-clause-key : goal.returns-in_err-key-clause-key
returns-in_err-key-clause-key c =
    rw c.from_residual-in_err-key.ensures (c.in_err-key.ensures ∙ range_own c.args.pool.now.lists c.args.process c.args.addr c.args.size c.in_ok-list.list c.in_ok-list.ensures.list)

pub returns-clause-key : goal.returns-clause-key
returns-clause-key c =
    c.in_ok-key.ensures ∙ range_own c.args.pool.now.lists c.args.process c.args.addr c.args.size c.in_ok-list.list c.in_ok-list.ensures.list
