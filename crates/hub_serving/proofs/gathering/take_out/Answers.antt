use Rattle.std.proofs.Common.{sym}
use Rattle.hub_serving.proofs.Emptying.{fewer_left, takes_out_first, takes_out_last, takes_out_next}
use Rattle.hub_serving.proofs.gathering.take_out.Goals as goal

pub loop-outgoing-init : goal.loop-outgoing-init
loop-outgoing-init c = rw c.new-bytes.ensures (takes_out_first c.args.side c.args.hub.now)

pub loop-outgoing-smaller : goal.loop-outgoing-smaller
loop-outgoing-smaller c = fewer_left c.args.side c.loop-outgoing.hub c.take_out.new.self c.in-Some.outgoing (sym c.in-Some.ensures.given) c.in-Some.ensures.after

pub loop-outgoing-preserved : goal.loop-outgoing-preserved
loop-outgoing-preserved c =
    takes_out_next c.args.side c.args.hub.now c.loop-outgoing.hub c.take_out.new.self c.in-Some.outgoing _ _ _ (sym c.in-Some.ensures.given) c.in-Some.ensures.after
    c.as_slice.ensures c.in_ok-extend.ensures.ok c.loop-outgoing.invariant

pub returns-clause-bytes : goal.returns-clause-bytes
returns-clause-bytes c =
    (takes_out_last c.args.side c.args.hub.now c.loop-outgoing.hub c.take_out.new.self _ (sym c.in_default.ensures.given) c.in_default.ensures.after c.loop-outgoing.invariant).0

pub returns-clause-hub : goal.returns-clause-hub
returns-clause-hub c =
    (takes_out_last c.args.side c.args.hub.now c.loop-outgoing.hub c.take_out.new.self _ (sym c.in_default.ensures.given) c.in_default.ensures.after c.loop-outgoing.invariant).1
