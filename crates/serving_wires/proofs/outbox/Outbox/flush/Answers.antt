use Rattle.serving_wires.proofs.Putting.{flush_after, given_up_after}
use Rattle.serving_wires.proofs.outbox.Outbox.flush.Goals as goal

pub returns-clause-ok : goal.returns-clause-ok
returns-clause-ok g c = flush_after c.shut.result _ _ _ _ _ _ c.in_ok-put.ensures.ok c.shut.ensures.ok

pub returns-clause-err : goal.returns-clause-err
returns-clause-err g c = given_up_after c.shut.result _ _ _ _ _ c.in_ok-put.ensures.ok c.shut.ensures.err
