use Rattle.run_control.proofs.Loops.{ids_more}
use Rattle.run_control.proofs.telling.thread_ids.Goals as goal

-- one ID more
pub loop-place-preserved : goal.loop-place-preserved
loop-place-preserved c =
    ids_more c.args.number c.loop-place.place c.loop-place.ids c.push.new.self c.in_ok-thread_id.field-0
    c.in_ok-thread_id.ensures c.in_ok-push.ensures.ok c.loop-place.invariant
