use Rattle.std.proofs.Common.{arith}
use Rattle.std.proofs.lemmas.Result.{err_from_is_err_and}
use Rattle.serving_wires.specs.Turn.{TakesTurn}
use Rattle.serving_wires.proofs.Ending.{RunsSo, last_turn, no_more_turns, no_turn, no_turn_yet, one_more_turn}
use Rattle.serving_wires.proofs.Turns.{turn_rose}
use Rattle.serving_wires.proofs.run.serve.Goals as goal

pub loop-before-init : goal.loop-before-init
loop-before-init g c = no_turn_yet c.each_wire_is_carried.ensures _ _ _ _

pub loop-before-preserved : goal.loop-before-preserved
loop-before-preserved g c =
    let turn = rw c.if-is_last.false at c.in_ok-is_last.ensures.turn in
    one_more_turn c.each_wire_is_carried.ensures _ _ _ c.loop-before.before _ _ _ _ _ _ _ c.loop-before.invariant turn

pub returns-in_err-is_last-clause-serves : goal.returns-in_err-is_last-clause-serves
returns-in_err-is_last-clause-serves g c =
    let p = err_from_is_err_and c.from_residual.result c.from_residual.ensures.1 in
    rw (p.1, p.2) (no_turn c.in_err-is_last.field-0.0 c.each_wire_is_carried.ensures _ _ _ c.args.turns c.loop-before.before _
    (record { served = c.take_turn.new.served; sending = c.take_turn.new.sending }) _ (g.W.Wires.seen c.take_turn.new.wires).unused _ _ _ c.loop-before-test.true c.loop-before.invariant
    c.in_err-is_last.ensures.turn)

pub returns-in_err-is_last-clause-fault : goal.returns-in_err-is_last-clause-fault
returns-in_err-is_last-clause-fault g c =
    let p = err_from_is_err_and c.from_residual.result c.from_residual.ensures.1 in
    rw (p.1, p.2) (λ ends. turn_rose c.in_err-is_last.field-0.0
    (RunsSo g.S.Served.behaviour (record { served = c.args.served.now; sending = c.args.sending.now }) (g.W.Wires.seen c.args.wires.now).unused c.loop-before.before
    (record { served = c.loop-before.served; sending = c.loop-before.sending }) (g.W.Wires.seen c.loop-before.wires).unused)
    (TakesTurn g.S.Served.behaviour (record { served = c.loop-before.served; sending = c.loop-before.sending })
    (record { served = c.take_turn.new.served; sending = c.take_turn.new.sending }) (g.W.Wires.seen c.loop-before.wires).unused (g.W.Wires.seen c.take_turn.new.wires).unused)
    _ _ _ (λ calls t. t) c.loop-before.invariant c.in_err-is_last.ensures.turn ends)

pub returns-then-is_last-clause-serves : goal.returns-then-is_last-clause-serves
returns-then-is_last-clause-serves g c =
    let turn = rw c.if-is_last.true at c.in_ok-is_last.ensures.turn in
    last_turn c.each_wire_is_carried.ensures _ _ _ c.args.turns c.loop-before.before _ _ _ _ _ _ _ c.loop-before-test.true c.loop-before.invariant turn

pub returns-clause-serves : goal.returns-clause-serves
returns-clause-serves g c =
    no_more_turns c.each_wire_is_carried.ensures _ _ _ c.args.turns c.loop-before.before _ _ _ _ (omega arith) c.loop-before.invariant
