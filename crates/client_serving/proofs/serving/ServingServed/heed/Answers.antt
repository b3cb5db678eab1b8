use Rattle.serving_wires.proofs.Flushes.{on_any as on_err}
use Rattle.serving_wires.proofs.Leading.{broken_at_once}
use Rattle.serving_wires.proofs.Making.{makes_none}
use Rattle.client_serving.proofs.Heeding.{heeds, on_ok_so, same_peer}
use Rattle.client_serving.proofs.serving.ServingServed.heed.Goals as goal

pub returns-in_err-act-clause-err : goal.returns-in_err-act-clause-err
returns-in_err-act-clause-err g c = on_err c.from_residual.result _ (broken_at_once _ _ _ _ _)

pub returns-clause-peer : goal.returns-clause-peer
returns-clause-peer g c =
    on_ok_so c.tell.result _ _
    (λ tells. same_peer c.args.event c.args.self.now c.act.new.self c.tell.new.self c.act.new.sending c.tell.new.sending c.in_ok-act.ensures.acted tells)
    c.tell.ensures

pub returns-clause-ok : goal.returns-clause-ok
returns-clause-ok g c =
    on_ok_so c.tell.result _ _
    (λ tells. makes_none _ _
    (heeds c.args.event c.args.self.now c.act.new.self c.tell.new.self c.args.sending.now c.act.new.sending c.tell.new.sending c.in_ok-act.ensures.acted c.in_ok-act.ensures.opened tells _ _))
    c.tell.ensures

pub returns-clause-err : goal.returns-clause-err
returns-clause-err g c = on_err c.tell.result _ (broken_at_once _ _ _ _ _)
