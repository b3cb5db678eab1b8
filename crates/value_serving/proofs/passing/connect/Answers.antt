use Rattle.value_serving.proofs.Connecting.{breaks_connected, breaks_failed, breaks_unasked, connected_so, failed_so}
use Rattle.value_serving.proofs.Results.{on_ok_both, on_ok_same}
use Rattle.std.proofs.Common.{ap}
use Rattle.value_node.specs.ValueValue.{ValueValue}
use Rattle.value_serving.specs.Adds.{with_node}
use Rattle.value_serving.proofs.passing.connect.Goals as goal
use Rattle.serving_wires.proofs.Flushes.{on_any as on_err}

pub returns-in-Ok-clause-ok : goal.returns-in-Ok-clause-ok
returns-in-Ok-clause-ok g c =
    on_ok_both c.begin_above.result _ _ _
    (connected_so c.args.peer.now c.in-Ok.channel c.args.add.now c.begin_above.new.add c.args.sending.now c.begin_above.new.sending _ _
    c.in-Ok.ensures.new c.in-Ok.ensures.seen)
    c.begin_above.ensures.add c.begin_above.ensures.sending

pub returns-in-Ok-clause-err : goal.returns-in-Ok-clause-err
returns-in-Ok-clause-err g c =
    on_err c.begin_above.result _
    (breaks_connected c.args.peer.now c.in-Ok.channel _ c.args.add.now c.args.sending.now _ _ c.in-Ok.ensures.new c.in-Ok.ensures.seen)

pub returns-in-Err-Failed-clause-ok : goal.returns-in-Err-Failed-clause-ok
returns-in-Err-Failed-clause-ok g c =
    on_ok_same c.connect_failed.result _ _
    (λ failed. failed_so c.in-Err-Failed.field-0 c.args.peer.now c.args.add.now _ c.args.sending.now _ _ c.in-Err-Failed.field-0-is c.in-Err-Failed.ensures.seen
    (ap (λ (v : ValueValue). with_node v c.args.add.now) failed))
    c.connect_failed.ensures.failed

pub returns-in-Err-Failed-clause-err : goal.returns-in-Err-Failed-clause-err
returns-in-Err-Failed-clause-err g c =
    on_err c.connect_failed.result _
    (breaks_failed c.in-Err-Failed.field-0 c.args.peer.now _ c.args.add.now c.args.sending.now _ _ c.in-Err-Failed.field-0-is c.in-Err-Failed.ensures.seen)

pub returns-in-Err-NoMemory-clause-err : goal.returns-in-Err-NoMemory-clause-err
returns-in-Err-NoMemory-clause-err g c =
    breaks_unasked c.in-Err-NoMemory.field-0 c.args.peer.now _ c.args.add.now c.args.sending.now _ _ c.in-Err-NoMemory.ensures.seen
