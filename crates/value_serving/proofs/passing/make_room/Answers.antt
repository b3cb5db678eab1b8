use Rattle.value_serving.proofs.Hearing.{makes_room, room_broken, room_broken_first}
use Rattle.value_serving.proofs.Results.{on_err_same, on_ok_same}
use Rattle.value_serving.proofs.passing.make_room.Goals as goal
use Rattle.serving_wires.proofs.Flushes.{on_any as on_err}

pub returns-in_err-take-clause-err : goal.returns-in_err-take-clause-err
returns-in_err-take-clause-err g c =
    on_err c.from_residual.result _
    (room_broken_first c.args.peer.now _ c.waiting-above.result c.args.add.now c.args.sending.now _ _ c.waiting-above.ensures c.in_err-take.ensures.err)

pub returns-clause-ok : goal.returns-clause-ok
returns-clause-ok g c =
    on_ok_same c.take-2.result _ _
    (λ made. makes_room c.args.peer.now _ _ _ c.waiting-above.result c.waiting-below.result c.args.add.now c.take.new.add c.take-2.new.add c.args.sending.now c.take.new.sending c.take-2.new.sending
    _ _ _ c.waiting-above.ensures c.waiting-below.ensures c.in_ok-take.ensures.ok made)
    c.take-2.ensures.ok

pub returns-clause-err : goal.returns-clause-err
returns-clause-err g c =
    on_err_same c.take-2.result _ _
    (λ made. room_broken c.args.peer.now _ _ c.waiting-above.result c.waiting-below.result c.args.add.now c.take.new.add c.args.sending.now c.take.new.sending
    _ _ _ c.waiting-above.ensures c.waiting-below.ensures c.in_ok-take.ensures.ok made)
    c.take-2.ensures.err
