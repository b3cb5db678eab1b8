use Rattle.std.proofs.Common.{refl}
use Rattle.value_serving.proofs.Searching.{found_there, not_there, nowhere}
use Rattle.value_serving.proofs.serving.above_of.Goals as goal

pub loop-place-init : goal.loop-place-init
loop-place-init c = refl

pub loop-place-preserved : goal.loop-place-preserved
loop-place-preserved c = not_there c.loop-place.place c.args.channel c.args.adds.now c.is_above.result c.is_above.ensures c.if-is_above.false c.loop-place.invariant

pub returns-then-is_above : goal.returns-then-is_above
returns-then-is_above c = found_there c.loop-place.place c.args.channel c.args.adds.now c.is_above.result c.is_above.ensures c.if-is_above.true c.loop-place.invariant

pub returns : goal.returns
returns c = nowhere c.loop-place.place c.len-place-end.result c.args.channel c.args.adds.now c.len-place-end.ensures c.loop-place-test.false c.loop-place.invariant
