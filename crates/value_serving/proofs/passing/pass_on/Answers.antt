use Rattle.value_serving.proofs.Rounds.{fewer_wait, pass_begins, pass_breaks, pass_ends, pass_next, taken_within}
use Rattle.std.proofs.Common.{arith}
use Rattle.value_serving.proofs.passing.pass_on.Goals as goal
use Rattle.serving_wires.proofs.Flushes.{on_any as on_err}

pub loop-add-init : goal.loop-add-init
loop-add-init g c = pass_begins c.args.peer.now _ c.args.add.now c.args.sending.now _

pub loop-add-smaller : goal.loop-add-smaller
loop-add-smaller g c =
    let given = fewer_wait c.in_ok-give_next.field-0 c.loop-add.add c.give_next.new.self c.in_ok-give_next.ensures c.if-branch.true in
    let taken = taken_within c.args.peer.now _ _ c.give_next.new.self c.make_room.new.add c.loop-add.sending c.make_room.new.sending _ _ c.in_ok-make_room.ensures.ok in
    omega (arith, given, taken)

pub loop-add-preserved : goal.loop-add-preserved
loop-add-preserved g c =
    pass_next c.args.peer.now _ _ _ c.args.add.now c.loop-add.add c.give_next.new.self c.make_room.new.add c.in_ok-give_next.field-0 c.args.sending.now c.loop-add.sending c.make_room.new.sending
    _ _ _ c.in_ok-give_next.ensures c.if-branch.true c.loop-add.invariant c.in_ok-make_room.ensures.ok

pub returns-in_err-make_room-clause-err : goal.returns-in_err-make_room-clause-err
returns-in_err-make_room-clause-err g c =
    on_err c.from_residual-in_err-make_room.result _
    (pass_breaks c.args.peer.now _ _ c.args.add.now c.loop-add.add c.give_next.new.self c.in_ok-give_next.field-0 c.args.sending.now c.loop-add.sending _ _ _ c.in_ok-give_next.ensures
    c.if-branch.true c.loop-add.invariant c.in_err-make_room.ensures.err)

pub returns-clause-ok : goal.returns-clause-ok
returns-clause-ok g c =
    pass_ends c.args.peer.now _ _ c.args.add.now c.loop-add.add c.give_next.new.self c.in_ok-give_next.field-0 c.args.sending.now c.loop-add.sending _ _ c.in_ok-give_next.ensures
    c.if-branch.false c.loop-add.invariant
