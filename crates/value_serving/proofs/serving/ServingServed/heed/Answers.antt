use Rattle.serving_wires.proofs.Leading.{broken_at_once}
use Rattle.value_serving.proofs.Hearing.{idles}
use Rattle.value_serving.proofs.serving.ServingServed.heed.Goals as goal
use Rattle.serving_wires.proofs.Flushes.{on_any as on_err}

pub returns-in-Opened-clause-err : goal.returns-in-Opened-clause-err
returns-in-Opened-clause-err g c = on_err c.open.result _ (broken_at_once _ _ _ _ _)

pub returns-in-Idle-clause-ok : goal.returns-in-Idle-clause-ok
returns-in-Idle-clause-ok g c = idles c.args.self.now.peer _ c.args.event c.args.self.now c.args.sending.now _ c.in-Idle.is
