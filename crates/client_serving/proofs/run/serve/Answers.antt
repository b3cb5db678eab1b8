use Rattle.std.proofs.Common.{arith, sym}
use Rattle.std.proofs.lemmas.Result.{err_from_is_err_and}
use Rattle.client_serving.proofs.Calling.{cut_turn, ends_at_once, last_turn, no_more_turns, no_turn_yet, one_more_turn, unput_at_once}
use Rattle.client_serving.proofs.run.serve.Goals as goal

pub returns-in_err-flush : goal.returns-in_err-flush
returns-in_err-flush g c =
    let p = err_from_is_err_and c.from_residual.result c.from_residual.ensures.1 in
    rw (p.1, p.2)
    (unput_at_once c.each_wire_is_carried.ensures (record { served = c.args.serving.now; sending = c.args.sending.now }) _ c.args.turns c.in-Some.end c.args.serving.now _ _ (sym c.in-Some.ensures) c.in_err-flush.ensures.err)

pub returns-in-Some : goal.returns-in-Some
returns-in-Some g c =
    ends_at_once c.each_wire_is_carried.ensures (record { served = c.args.serving.now; sending = c.args.sending.now }) _ c.args.turns c.in-Some.end _ _ _ (sym c.in-Some.ensures) c.in_ok-flush.ensures.ok

pub loop-counter-init : goal.loop-counter-init
loop-counter-init g c = no_turn_yet c.each_wire_is_carried.ensures _ _ _ (sym c.in_default.ensures)

pub returns-in_err-take_turn : goal.returns-in_err-take_turn
returns-in_err-take_turn g c =
    let p = err_from_is_err_and c.from_residual-in_err-take_turn.result c.from_residual-in_err-take_turn.ensures.1 in
    rw (p.1, p.2)
    (cut_turn c.each_wire_is_carried.ensures _ _ c.loop-counter.counter _ (record { served = c.take_turn.new.served; sending = c.take_turn.new.sending }) _ (g.W.Wires.seen c.take_turn.new.wires).unused _ _ _
    c.loop-counter.invariant c.args.turns c.in_err-take_turn.field-0.0 c.loop-counter-test.true c.in_err-take_turn.ensures.turn)

pub returns-in-Some-end : goal.returns-in-Some-end
returns-in-Some-end g c =
    last_turn c.each_wire_is_carried.ensures _ _ c.loop-counter.counter _ (record { served = c.take_turn.new.served; sending = c.take_turn.new.sending }) _ _ _ _ _ c.loop-counter.invariant c.args.turns _
    c.in-Some-end.end c.loop-counter-test.true (sym c.in-Some-end.ensures) c.in_ok-take_turn.ensures.turn

pub loop-counter-preserved : goal.loop-counter-preserved
loop-counter-preserved g c =
    one_more_turn c.each_wire_is_carried.ensures _ _ c.loop-counter.counter _ (record { served = c.take_turn.new.served; sending = c.take_turn.new.sending }) _ _ _ _ _ c.loop-counter.invariant _
    (sym c.in_default-end.ensures) c.in_ok-take_turn.ensures.turn

pub returns : goal.returns
returns g c =
    no_more_turns c.each_wire_is_carried.ensures _ _ c.args.turns c.loop-counter.counter (record { served = c.loop-counter.serving; sending = c.loop-counter.sending }) _ _ _
    (omega (arith, c.loop-counter-test.false, c.loop-counter.auto.counter-end)) c.loop-counter.invariant
