use Rattle.std.proofs.Common.{◌∙◌, sym}
use Rattle.hub_serving.proofs.Taking.{goes_on, stops_there}
use Rattle.hub_serving.proofs.passing.turn_from.Goals as goal

pub loop-place-preserved : goal.loop-place-preserved
loop-place-preserved c =
    goes_on c.loop-place.place c.len-place-end.result c.args.lines.now c.loop-place.hub c.turn_at.new.hub c.in_ok-next.next _ c.len-place-end.ensures c.loop-place-test.true c.in_ok-next.ensures
    (sym c.is_some.ensures ∙ c.if-is_some.false) c.loop-place.invariant

pub returns-then-is_some : goal.returns-then-is_some
returns-then-is_some c =
    stops_there c.loop-place.place c.len-place-end.result c.args.lines.now c.loop-place.hub c.turn_at.new.hub c.in_ok-next.next _ c.len-place-end.ensures c.loop-place-test.true c.in_ok-next.ensures
    (sym c.is_some.ensures ∙ c.if-is_some.true) c.loop-place.invariant
