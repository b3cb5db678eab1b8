use Rattle.std.proofs.Common.{◌∙◌}
use Rattle.chain_world.proofs.Queued.{dropped_more}
use Rattle.chain_world.proofs.chain.drop_all.Goals as goal

pub loop-k-preserved : goal.loop-k-preserved
loop-k-preserved c =
    dropped_more c.args.channels.now c.loop-k.k-index c.loop-k.agent c.drop_queue.new.agent c.loop-k-test.true c.drop_queue.ensures ∙ c.loop-k.invariant
