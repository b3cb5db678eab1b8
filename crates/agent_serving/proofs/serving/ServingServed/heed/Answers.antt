use Rattle.std.proofs.Common.{sym, subst}
use Rattle.serving_wires.specs.Process.{done}
use Rattle.serving_wires.specs.Sending.{opened_by}
use Rattle.serving_wires.proofs.Flushes.{on_any as on_err}
use Rattle.serving_wires.proofs.Leading.{broken_at_once}
use Rattle.serving_wires.proofs.Making.{makes_none}
use Rattle.agent_serving.specs.Serving.{acted}
use Rattle.agent_serving.specs.ServingValue.{ServingValue}
use Rattle.agent_serving.proofs.Telling.{Alone, heeds, on_ok_so}
use Rattle.agent_serving.proofs.serving.ServingServed.heed.Goals as goal

pub returns-in_err-act-clause-err : goal.returns-in_err-act-clause-err
returns-in_err-act-clause-err g c = on_err c.from_residual.result _ (broken_at_once _ _ _ _ _)

pub returns-clause-ok : goal.returns-clause-ok
returns-clause-ok g c =
    on_ok_so c.gather_all.result _ _
    (λ told. makes_none _ _
    (heeds c.args.event c.args.self.now (record { agent = c.self.inside.agent; lines = c.self.inside.lines }) c.gather_all.new.agent (opened_by c.args.event c.args.sending.now) c.act.new.sending
    c.gather_all.new.sending
    (subst (λ (s : ServingValue). Alone (acted c.args.event c.args.self.now) (done s) (opened_by c.args.event c.args.sending.now) c.act.new.sending) (sym c.self.view_is) c.in_ok-act.ensures)
    told _))
    c.gather_all.ensures

pub returns-clause-err : goal.returns-clause-err
returns-clause-err g c = on_err c.gather_all.result _ (broken_at_once _ _ _ _ _)
