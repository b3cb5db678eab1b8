use Rattle.std.proofs.Common.{sym}
use Rattle.agent_serving.proofs.Telling.{hears_last, hears_nowhere, hears_on}
use Rattle.agent_serving.proofs.serving.Serving.hear.Goals as goal

pub returns-in_ok-gather : goal.returns-in_ok-gather
returns-in_ok-gather c =
    rw (← c.self.view_is)
    (hears_last c.args.channel c.in-Some.place c.args.came (record { agent = c.self.inside.agent; lines = c.self.inside.lines }) (record { agent = c.hear_at.new.agent; lines = c.hear_at.new.lines })
    c.in_ok-hear_at.field-0 c.gather.new.agent c.remove.new.self c.args.sending.now c.gather.new.sending c.close.new.self (sym c.in-Some.ensures) c.in_ok-hear_at.ensures c.if-branch.true
    c.in_ok-gather.ensures c.close.ensures c.remove.ensures)

pub returns-else-branch : goal.returns-else-branch
returns-else-branch c =
    rw (← c.self.view_is)
    (hears_on c.args.channel c.in-Some.place c.args.came (record { agent = c.self.inside.agent; lines = c.self.inside.lines }) (record { agent = c.hear_at.new.agent; lines = c.hear_at.new.lines })
    c.in_ok-hear_at.field-0 c.args.sending.now (sym c.in-Some.ensures) c.in_ok-hear_at.ensures c.if-branch.false)

pub returns-in_default : goal.returns-in_default
returns-in_default c =
    rw (← c.self.view_is)
    (hears_nowhere c.args.channel c.args.came (record { agent = c.self.inside.agent; lines = c.self.inside.lines }) c.args.sending.now (sym c.in_default.ensures))
