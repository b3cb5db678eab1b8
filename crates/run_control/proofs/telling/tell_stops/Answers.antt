use Rattle.run_control.proofs.Loops.{stops_more}
use Rattle.run_control.proofs.telling.tell_stops.Goals as goal

-- what is told of one thread more
pub loop-place-preserved : goal.loop-place-preserved
loop-place-preserved c =
    stops_more c.args.number c.loop-place.place c.args.threads.now c.args.events.now c.loop-place.events c.tell_one.new.events
    c.in_ok-tell_one.ensures c.loop-place.invariant
