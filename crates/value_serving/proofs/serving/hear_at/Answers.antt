use Rattle.std.proofs.Common.{refl, sym}
use Rattle.value_serving.proofs.Hearing.{heard_nowhere, heard_there, heard_there_in_part}
use Rattle.value_serving.proofs.Results.{on_err_same, on_ok_same}
use Rattle.value_serving.proofs.serving.hear_at.Goals as goal

pub returns-in-Some-clause-ok : goal.returns-in-Some-clause-ok
returns-in-Some-clause-ok g c =
    on_ok_same c.hear.result _ _
    (λ made. heard_there c.args.peer.now _ _ c.args.place c.args.side c.args.came c.in-Some.add.now c.hear.new.add c.args.adds.now _ c.args.sending.now c.hear.new.sending _ _
    (sym c.in-Some.ensures.value) refl made)
    c.hear.ensures.ok

pub returns-in-Some-clause-err : goal.returns-in-Some-clause-err
returns-in-Some-clause-err g c =
    on_err_same c.hear.result _ _
    (λ made. heard_there_in_part c.args.peer.now _ c.args.place c.args.side c.args.came c.in-Some.add.now c.args.adds.now c.args.sending.now _ _ (sym c.in-Some.ensures.value) made)
    c.hear.ensures.err

pub returns-in-None-clause-ok : goal.returns-in-None-clause-ok
returns-in-None-clause-ok g c =
    heard_nowhere c.args.peer.now _ c.args.place c.args.side c.args.came c.args.adds.now c.args.sending.now _ (sym c.in-None.ensures.value)
