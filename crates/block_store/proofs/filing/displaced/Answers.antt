use Rattle.std.proofs.Common.{Some, None, nat_le, ap, cond, ◌∙◌}
use Rattle.link_pool.specs.Rows.{first_key}
use Rattle.link_pool.specs.Lists.{rows_of}
use Rattle.block_store.specs.Blocks.{is_same}
use Rattle.block_store.proofs.Turned.{added_other, added_same, gone_there, last_there}
use Rattle.block_store.proofs.Stored.{same_own}
use Rattle.block_store.proofs.filing.displaced.Goals as goal

pub returns-in-Some-clause-room : goal.returns-in-Some-clause-room
returns-in-Some-clause-room c =
    let last = same_own c.args.pool.now.lists c.args.list c.args.block.now c.len.result (Some c.in-Some.key) c.requires.list c.len.ensures c.in-Some.ensures in
    added_same c.args.block.now c.in-Some.key (rows_of 0 c.args.pool.now.lists) last c.requires.owners.distinct c.requires.kept

pub returns-in-Some-clause-there : goal.returns-in-Some-clause-there
returns-in-Some-clause-there c =
    let last = same_own c.args.pool.now.lists c.args.list c.args.block.now c.len.result (Some c.in-Some.key) c.requires.list c.len.ensures c.in-Some.ensures in
    last_there (is_same c.args.block.now) c.in-Some.key (rows_of 0 c.args.pool.now.lists) c.requires.owners.distinct last

pub returns-in-None-clause-room : goal.returns-in-None-clause-room
returns-in-None-clause-room c =
    let last = same_own c.args.pool.now.lists c.args.list c.args.block.now c.len.result None c.requires.list c.len.ensures c.in-None.ensures in
    added_other c.args.block.now (rows_of 0 c.args.pool.now.lists) c.oldest_of_many.result last c.requires.owners.distinct c.requires.kept
    (c.oldest_of_many.ensures ∙ ap (λ n. cond (nat_le 64 n) (first_key (rows_of 0 c.args.pool.now.lists)) None) c.requires.count)

pub returns-in-None-clause-there : goal.returns-in-None-clause-there
returns-in-None-clause-there c =
    gone_there (rows_of 0 c.args.pool.now.lists) (nat_le 64 c.args.count) c.oldest_of_many.result c.oldest_of_many.ensures
