use Rattle.std.proofs.Common.{ap, ◌∙◌}
use Rattle.block_store.specs.Store.{added}
use Rattle.block_store.specs.declared.block.Block.{Block}
use Rattle.block_store.proofs.Stored.{seen_added, stored_added}
use Rattle.block_store.proofs.store.BlockStore.add.Goals as goal

pub invariant_of-self : goal.invariant_of-self
invariant_of-self c =
    let block : Block = record { process = c.args.process; addr = c.args.addr; bytes = c.args.bytes } in
    stored_added c.self.inside.pool.lists c.replace-key.new.pool.lists c.self.inside.pool.room c.replace-key.new.pool.room c.self.inside.count c.count_after-self-inside.result c.replace-key.result block c.displaced-gone.result
    c.self.invariant c.requires c.displaced-gone.ensures.room c.displaced-gone.ensures.there c.replace-key.ensures.owners c.replace-key.ensures.rows c.replace-key.ensures.places c.count_after-self-inside.ensures

pub returns-clause-added : goal.returns-clause-added
returns-clause-added c =
    let block : Block = record { process = c.args.process; addr = c.args.addr; bytes = c.args.bytes } in
    seen_added c.self.inside.pool.lists c.replace-key.new.pool.lists c.replace-key.result block c.displaced-gone.result c.displaced-gone.ensures.room c.replace-key.ensures.rows
    ∙ ap (added block) c.self.view_is
