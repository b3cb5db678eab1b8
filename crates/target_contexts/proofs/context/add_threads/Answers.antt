use Rattle.target_contexts.proofs.Told.{threads_more}
use Rattle.target_contexts.proofs.context.add_threads.Goals as goal

-- one thread more
pub loop-place-preserved : goal.loop-place-preserved
loop-place-preserved c =
    threads_more c.args.behind c.loop-place.place c.args.number c.args.process.now.seen c.args.list.now c.loop-place.list c.add_thread.new.list
    c.in_ok-add_thread.ensures c.loop-place.invariant
