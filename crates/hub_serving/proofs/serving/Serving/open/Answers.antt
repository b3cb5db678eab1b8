use Rattle.std.proofs.Common.{refl}
use Rattle.hub_serving.proofs.Heeding.{opens_ok, turns_away}
use Rattle.hub_serving.proofs.serving.Serving.open.Goals as goal

pub returns-then-branch-clause-opens : goal.returns-then-branch-clause-opens
returns-then-branch-clause-opens c =
    rw (← c.self.view_is)
    (opens_ok c.push.result c.args.channel c.in_ok-opened.field-0 c.opened.new.self (record { peer = c.self.inside.peer; hub = c.self.inside.hub; lines = c.self.inside.lines }) c.push.new.self
    c.new_line.result c.args.sending.now c.begin.new.self c.in_ok-begin.ensures c.in_ok-opened.ensures c.if-branch.true c.new_line.ensures c.push.ensures.ok)

pub returns-clause-opens : goal.returns-clause-opens
returns-clause-opens c =
    rw (← c.self.view_is)
    (turns_away c.args.channel c.in_ok-opened.field-0 c.opened.new.self (record { peer = c.self.inside.peer; hub = c.self.inside.hub; lines = c.self.inside.lines })
    (record { peer = c.self.inside.peer; hub = c.opened.new.self; lines = c.self.inside.lines }) c.args.sending.now c.begin.new.self c.queue.new.self c.close.new.self c.in_ok-begin.ensures
    c.in_ok-opened.ensures c.if-branch.false c.in_ok-queue.ensures c.close.ensures refl)
