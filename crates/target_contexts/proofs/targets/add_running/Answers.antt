use Rattle.target_contexts.proofs.Running.{thread_walked}
use Rattle.target_contexts.proofs.targets.add_running.Goals as goal

-- one thread more
pub loop-place-preserved : goal.loop-place-preserved
loop-place-preserved c =
    thread_walked c.args.number c.loop-place.place c.args.threads.now c.args.running.now.items c.loop-place.running.items c.add_if_running.new.running.items
    c.in_ok-add_if_running.ensures c.loop-place.invariant
