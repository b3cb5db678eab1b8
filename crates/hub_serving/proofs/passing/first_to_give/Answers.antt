use Rattle.std.proofs.Common.{refl}
use Rattle.hub_serving.proofs.Searching.{found_there, not_there, nowhere}
use Rattle.hub_serving.proofs.passing.first_to_give.Goals as goal

pub loop-place-init : goal.loop-place-init
loop-place-init c = refl

pub loop-place-preserved : goal.loop-place-preserved
loop-place-preserved c = not_there c.loop-place.place c.args.hub.now c.args.lines.now c.can_give_at.result c.can_give_at.ensures c.if-can_give_at.false c.loop-place.invariant

pub returns-then-can_give_at : goal.returns-then-can_give_at
returns-then-can_give_at c = found_there c.loop-place.place c.args.hub.now c.args.lines.now c.can_give_at.result c.can_give_at.ensures c.if-can_give_at.true c.loop-place.invariant

pub returns : goal.returns
returns c = nowhere c.loop-place.place c.len-place-end.result c.args.hub.now c.args.lines.now c.len-place-end.ensures c.loop-place-test.false c.loop-place.invariant
