use Rattle.value_serving.proofs.Connecting.{take_begins, take_breaks, take_next, take_stops, take_waits}
use Rattle.value_serving.proofs.passing.take.Goals as goal
use Rattle.serving_wires.proofs.Flushes.{on_any as on_err}

pub loop-init : goal.loop-init
loop-init g c = take_begins c.args.peer.now _ c.args.count c.args.add.now c.args.sending.now _

pub returns-then-can_give-clause-ok : goal.returns-then-can_give-clause-ok
returns-then-can_give-clause-ok g c =
    take_waits c.args.peer.now _ _ c.args.count c.loop.counter c.args.add.now c.loop.add c.can_give.result c.args.sending.now c.loop.sending _ _ c.loop-test.true
    c.can_give.ensures c.if-can_give.true c.loop.invariant

pub returns-in_err-is_taken-clause-err : goal.returns-in_err-is_taken-clause-err
returns-in_err-is_taken-clause-err g c =
    on_err c.from_residual.result _
    (take_breaks c.args.peer.now _ _ c.args.count c.loop.counter c.args.add.now c.loop.add c.can_give.result c.args.sending.now c.loop.sending _ _ _ c.loop-test.true
    c.can_give.ensures c.if-can_give.false c.loop.invariant c.in_err-is_taken.ensures.err)

pub returns-then-not-is_taken-clause-ok : goal.returns-then-not-is_taken-clause-ok
returns-then-not-is_taken-clause-ok g c =
    take_stops c.args.peer.now _ _ _ c.args.count c.loop.counter c.args.add.now c.loop.add c.turn.new.add c.can_give.result c.in_ok-is_taken.is_taken c.args.sending.now c.loop.sending
    c.turn.new.sending _ _ _ c.loop-test.true c.can_give.ensures c.if-can_give.false c.if-not-is_taken.true c.loop.invariant c.in_ok-is_taken.ensures.ok

pub loop-preserved : goal.loop-preserved
loop-preserved g c =
    take_next c.args.peer.now _ _ _ c.args.count c.loop.counter c.args.add.now c.loop.add c.turn.new.add c.can_give.result c.in_ok-is_taken.is_taken c.args.sending.now c.loop.sending
    c.turn.new.sending _ _ _ c.loop-test.true c.can_give.ensures c.if-can_give.false c.if-not-is_taken.false c.loop.invariant c.in_ok-is_taken.ensures.ok
