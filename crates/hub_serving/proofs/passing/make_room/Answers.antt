use Rattle.std.proofs.Common.{ap, not, ◌∙◌}
use Rattle.hub_serving.proofs.Taking.{fewer_left, room_begins, room_ends, room_next}
use Rattle.hub_serving.proofs.passing.make_room.Goals as goal

pub loop-hub-init : goal.loop-hub-init
loop-hub-init c = room_begins c.args.next c.args.lines.now c.args.hub.now

pub loop-hub-smaller : goal.loop-hub-smaller
loop-hub-smaller c = fewer_left c.loop-hub.next c.in-Some.place c.args.lines.now c.loop-hub.hub c.take_one.new.hub c.in_ok-place.field-0 c.in_ok-place.ensures c.in-Some.is

pub loop-hub-preserved : goal.loop-hub-preserved
loop-hub-preserved c =
    room_next c.args.next c.loop-hub.next c.in-Some.place c.args.lines.now c.args.hub.now c.loop-hub.hub c.take_one.new.hub c.in_ok-place.field-0 c.first_to_give.result c.first_to_give.ensures
    (c.is_none.ensures ∙ ap not c.loop-hub-test.true) c.in_ok-place.ensures c.in-Some.is c.loop-hub.invariant

pub returns-in-None : goal.returns-in-None
returns-in-None c =
    room_ends c.args.next c.loop-hub.next c.args.lines.now c.args.hub.now c.loop-hub.hub c.take_one.new.hub c.in_ok-place.field-0 c.first_to_give.result c.first_to_give.ensures
    (c.is_none.ensures ∙ ap not c.loop-hub-test.true) c.in_ok-place.ensures c.in-None.is c.loop-hub.invariant
