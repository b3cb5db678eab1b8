use Rattle.agent_serving.proofs.Telling.{idles, on_ok_so, stops}
use Rattle.agent_serving.proofs.serving.Serving.act.Goals as goal

pub returns-in-Idle : goal.returns-in-Idle
returns-in-Idle c =
    rw (← c.self.view_is)
    (on_ok_so c.idle.result _ _
    (λ same. idles c.args.event (record { agent = c.self.inside.agent; lines = c.self.inside.lines }) c.idle.new.agent c.args.sending.now c.in-Idle.is same) c.idle.ensures)

pub returns-in-Stop : goal.returns-in-Stop
returns-in-Stop c = stops c.args.event c.args.self.now c.args.sending.now c.in-Stop.is
