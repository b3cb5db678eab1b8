use Rattle.hub_serving.proofs.Giving.{fewer_wait, gives_first, gives_next}
use Rattle.hub_serving.proofs.passing.pass_on.Goals as goal

pub loop-place-init : goal.loop-place-init
loop-place-init c = gives_first c.in_ok-next.next c.args.lines.now c.args.hub.now c.make_room.new.hub c.in_ok-next.ensures

pub loop-place-smaller : goal.loop-place-smaller
loop-place-smaller c =
    fewer_wait c.loop-place.next c.in-Some.place c.loop-place.lines c.give_at.new.lines c.loop-place.hub c.give_at.new.hub c.first_to_give.result c.first_to_give.ensures c.in-Some.is
    c.in_ok-give_at.ensures

pub loop-place-preserved : goal.loop-place-preserved
loop-place-preserved c =
    gives_next c.loop-place.next c.in-Some.place c.in_ok-next-2.next c.args.lines.now c.loop-place.lines c.give_at.new.lines c.args.hub.now c.loop-place.hub c.give_at.new.hub
    c.make_room-in-Some.new.hub c.first_to_give.result c.first_to_give.ensures c.in-Some.is c.in_ok-give_at.ensures c.in_ok-next-2.ensures c.loop-place.invariant
