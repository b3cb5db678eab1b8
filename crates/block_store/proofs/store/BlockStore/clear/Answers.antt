use Rattle.std.proofs.Common.{◌+◌, ap, ◌∙◌}
use Rattle.block_store.specs.Owners.{turned}
use Rattle.block_store.proofs.Stored.{all_gone, stored_cleared}
use Rattle.block_store.proofs.store.BlockStore.clear.Goals as goal

pub invariant_of-self : goal.invariant_of-self
invariant_of-self c =
    stored_cleared c.self.inside.pool.lists c.unlink_list.new.self.lists c.self.inside.pool.room c.unlink_list.new.self.room c.self.inside.count c.self.invariant c.unlink_list.ensures.left
    (c.unlink_list.ensures.room ∙ ap (λ n. c.self.inside.pool.room + n) c.unlink_list.ensures.count)

pub returns : goal.returns
returns c = ap turned (all_gone c.self.inside.pool.lists c.unlink_list.new.self.lists c.self.invariant.owners c.unlink_list.ensures.left)
