use Rattle.std.proofs.Common.{◌∙◌}
use Rattle.block_store.proofs.Stored.{stored_new}
use Rattle.block_store.proofs.store.BlockStore.new.Goals as goal

pub invariant_of-result : goal.invariant_of-result
invariant_of-result c =
    stored_new c.reserve.new.self.lists c.reserve.new.self.room (c.in_ok-reserve.ensures.kept ∙ c.in_ok-pool.ensures) c.in_ok-reserve.ensures.room
