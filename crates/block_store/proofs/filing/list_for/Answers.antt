use Rattle.block_store.proofs.Spare.{free_is}
use Rattle.block_store.proofs.filing.list_for.Goals as goal

pub returns-in-None : goal.returns-in-None
returns-in-None c =
    free_is c.args.pool.now.lists c.args.process c.free_list.result c.free_list.ensures.first c.free_list.ensures.last c.free_list.ensures.empty c.in-None.ensures.none
