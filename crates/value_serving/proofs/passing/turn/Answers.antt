use Rattle.value_serving.proofs.Connecting.{not_connected, not_taken, nothing_taken, one_connected, one_took}
use Rattle.value_serving.proofs.passing.turn.Goals as goal
use Rattle.serving_wires.proofs.Flushes.{on_any as on_err}

pub returns-in_err-take_one-clause-err : goal.returns-in_err-take_one-clause-err
returns-in_err-take_one-clause-err g c = on_err c.from_residual.result _ (not_taken c.args.peer.now _ c.args.add.now c.args.sending.now _)

pub returns-in_err-connect-in-Connect-clause-err : goal.returns-in_err-connect-in-Connect-clause-err
returns-in_err-connect-in-Connect-clause-err g c =
    on_err c.from_residual-in_err-connect-in-Connect.result _
    (not_connected c.args.peer.now _ c.in_ok-take_one.field-0 c.take_one.new.node c.args.add.now c.args.sending.now _ _ c.in-Connect.is c.in_ok-take_one.ensures
    c.in_err-connect-in-Connect.ensures.err)

pub returns-in-Nothing-clause-ok : goal.returns-in-Nothing-clause-ok
returns-in-Nothing-clause-ok g c =
    nothing_taken c.args.peer.now _ c.in_ok-take_one.field-0 c.take_one.new.node c.args.add.now c.args.sending.now _ c.in-Nothing.is c.in_ok-take_one.ensures

pub returns-in-Took-clause-ok : goal.returns-in-Took-clause-ok
returns-in-Took-clause-ok g c =
    one_took c.args.peer.now _ c.in_ok-take_one.field-0 c.take_one.new.node c.args.add.now c.args.sending.now _ c.in-Took.is c.in_ok-take_one.ensures

pub returns-in_ok-connect-in-Connect-clause-ok : goal.returns-in_ok-connect-in-Connect-clause-ok
returns-in_ok-connect-in-Connect-clause-ok g c =
    one_connected c.args.peer.now _ _ c.in_ok-take_one.field-0 c.take_one.new.node c.args.add.now c.connect.new.add c.args.sending.now c.connect.new.sending _ _ c.in-Connect.is
    c.in_ok-take_one.ensures c.in_ok-connect-in-Connect.ensures.ok
