use Rattle.std.proofs.Common.{List, refl, subst, sym, ℕ}
use Rattle.serving_wires.proofs.Flushes.{on_any as on_err}
use Rattle.serving_wires.proofs.Leading.{broken_at_once}
use Rattle.serving_wires.proofs.Making.{makes_none}
use Rattle.serving_wires.specs.Going.{DoesAlone}
use Rattle.serving_wires.specs.Sending.{opened_by}
use Rattle.hub_serving.specs.Serving.{acted}
use Rattle.hub_serving.specs.ServingValue.{ServingValue}
use Rattle.hub_serving.proofs.Heeding.{heeds, on_ok_both}
use Rattle.hub_serving.proofs.serving.ServingServed.heed.Goals as goal

pub returns-in_err-act-clause-err : goal.returns-in_err-act-clause-err
returns-in_err-act-clause-err g c = on_err c.from_residual.result _ (broken_at_once _ _ _ _ _)

pub returns-in_err-pass_on-clause-err : goal.returns-in_err-pass_on-clause-err
returns-in_err-pass_on-clause-err g c = on_err c.from_residual-in_err-pass_on.result _ (broken_at_once _ _ _ _ _)

pub returns-clause-ok : goal.returns-clause-ok
returns-clause-ok g c =
    on_ok_both c.gather.result _ _ _
    (λ forgets sends. makes_none _ _
    (heeds c.args.event c.args.self.now (record { peer = c.self.inside.peer; hub = c.self.inside.hub; lines = c.self.inside.lines })
    (record { peer = c.self.inside.peer; hub = c.gather.new.hub; lines = c.gather.new.lines }) c.pass_on.new.hub c.gather.new.hub c.pass_on.new.lines c.gather.new.lines
    (opened_by c.args.event c.args.sending.now) c.act.new.sending c.gather.new.sending
    (subst (λ (s : ServingValue). (peer : List ℕ) → DoesAlone peer (acted c.args.event c.args.self.now) s (opened_by c.args.event c.args.sending.now) c.act.new.sending) (sym c.self.view_is)
    c.in_ok-act.ensures.acts)
    c.in_ok-pass_on.ensures forgets sends refl _ _))
    c.gather.ensures.lines c.gather.ensures.sends

pub returns-clause-err : goal.returns-clause-err
returns-clause-err g c = on_err c.gather.result _ (broken_at_once _ _ _ _ _)
