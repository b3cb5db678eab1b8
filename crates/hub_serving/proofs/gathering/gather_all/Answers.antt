use Rattle.hub_serving.proofs.Collecting.{gather_first, gather_last, gather_next}
use Rattle.hub_serving.proofs.gathering.gather_all.Goals as goal

pub loop-place-init : goal.loop-place-init
loop-place-init c = gather_first c.args.lines.now c.args.hub.now c.args.sending.now

pub loop-place-preserved : goal.loop-place-preserved
loop-place-preserved c =
    gather_next c.loop-place.place c.args.lines.now c.args.hub.now c.loop-place.hub c.gather_at.new.hub c.args.sending.now c.loop-place.sending c.gather_at.new.sending
    c.in_ok-gather_at.ensures.hub c.in_ok-gather_at.ensures.sending c.loop-place.invariant

pub returns : goal.returns
returns c =
    gather_last c.loop-place.place c.len-place-end.result c.args.lines.now c.args.hub.now c.loop-place.hub c.args.sending.now c.loop-place.sending c.len-place-end.ensures c.loop-place-test.false
    c.loop-place.invariant
