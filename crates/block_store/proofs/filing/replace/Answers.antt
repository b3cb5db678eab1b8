use Rattle.block_store.proofs.Stored.{replaced_owners, replaced_room, replaced_rows}
use Rattle.block_store.proofs.filing.replace.Goals as goal

pub returns-clause-owners : goal.returns-clause-owners
returns-clause-owners c =
    let pushed = rw c.unwrap-key.ensures at c.push.ensures.pushed in
    let fresh = rw c.unwrap-key.ensures at c.push.ensures.fresh in
    replaced_owners c.args.pool.now.lists c.push.new.self.lists c.take_out.new.pool.lists c.args.list c.unwrap-key.result c.args.block c.requires.owners c.requires.list fresh pushed c.args.gone c.take_out.ensures.left

pub returns-clause-rows : goal.returns-clause-rows
returns-clause-rows c =
    let pushed = rw c.unwrap-key.ensures at c.push.ensures.pushed in
    let fresh = rw c.unwrap-key.ensures at c.push.ensures.fresh in
    replaced_rows c.args.pool.now.lists c.push.new.self.lists c.take_out.new.pool.lists c.args.list c.unwrap-key.result c.args.block c.requires.owners c.requires.list fresh pushed c.args.gone c.take_out.ensures.left c.requires.there

pub returns-clause-places : goal.returns-clause-places
returns-clause-places c =
    let pushed = rw c.unwrap-key.ensures at c.push.ensures.pushed in
    let fresh = rw c.unwrap-key.ensures at c.push.ensures.fresh in
    replaced_room c.args.pool.now.lists c.push.new.self.lists c.take_out.new.pool.lists c.args.list c.unwrap-key.result c.args.block c.requires.owners c.requires.list fresh pushed c.args.gone c.args.pool.now.room c.push.new.self.room c.take_out.new.pool.room
    c.take_out.ensures.left c.requires.there c.push.ensures.room c.take_out.ensures.room c.take_out.ensures.same
