use Rattle.block_store.proofs.Spare.{no_item}
use Rattle.block_store.proofs.filing.owner.Goals as goal

pub returns-in_err-item : goal.returns-in_err-item
returns-in_err-item c =
    no_item c.args.list c.args.pool.now.lists c.in_ok-key.key c.in_ok-key.ensures.whole c.in_ok-key.ensures.value c.in_err-item.ensures.value
