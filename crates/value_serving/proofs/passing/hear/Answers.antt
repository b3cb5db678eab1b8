use Rattle.value_serving.proofs.Hearing.{hears, hears_in_part, hears_not_gathered}
use Rattle.serving_wires.proofs.Leading.{broken_at_once}
use Rattle.value_serving.proofs.Results.{on_ok_same}
use Rattle.value_serving.specs.Passing.{heard}
use Rattle.value_serving.proofs.passing.hear.Goals as goal
use Rattle.serving_wires.proofs.Flushes.{on_any as on_err}

pub returns-in_err-wait-clause-err : goal.returns-in_err-wait-clause-err
returns-in_err-wait-clause-err g c =
    on_err c.from_residual.result _ (broken_at_once c.args.peer.now _ (heard c.args.side c.args.came c.args.add.now) c.args.sending.now _)

pub returns-in_err-pass_on-clause-err : goal.returns-in_err-pass_on-clause-err
returns-in_err-pass_on-clause-err g c =
    on_err c.from_residual-in_err-pass_on.result _
    (hears_in_part c.args.peer.now _ c.args.side c.args.came c.args.add.now c.wait.new.self c.args.sending.now _ _ c.in_ok-wait.ensures c.in_err-pass_on.ensures.err)

pub returns-clause-ok : goal.returns-clause-ok
returns-clause-ok g c =
    on_ok_same c.gather.result _ _
    (λ goes. hears c.args.peer.now _ _ c.args.side c.args.came c.args.add.now c.wait.new.self c.pass_on.new.add c.gather.new.add c.args.sending.now c.pass_on.new.sending c.gather.new.sending _ _
    c.in_ok-wait.ensures c.in_ok-pass_on.ensures.ok (goes c.args.peer.now _))
    c.gather.ensures

pub returns-clause-err : goal.returns-clause-err
returns-clause-err g c =
    on_err c.gather.result _
    (hears_not_gathered c.args.peer.now _ _ c.args.side c.args.came c.args.add.now c.wait.new.self c.pass_on.new.add c.args.sending.now c.pass_on.new.sending _ _
    c.in_ok-wait.ensures c.in_ok-pass_on.ensures.ok)
