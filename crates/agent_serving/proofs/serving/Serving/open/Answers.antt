use Rattle.std.proofs.Common.{List, [], ◌∷◌, ◌++◌, ap, ◌∙◌}
use Rattle.serving_wires.specs.Order.{queues}
use Rattle.serving_wires.specs.Sending.{begun, ordered}
use Rattle.serving_wires.specs.declared.intake.Came.{Came}
use Rattle.serving_wires.proofs.Leading.{Rows}
use Rattle.agent_serving.proofs.Telling.{on_ok_so, opens_line, refuses_line}
use Rattle.agent_serving.proofs.serving.Serving.open.Goals as goal

pub returns-then-branch : goal.returns-then-branch
returns-then-branch c =
    rw (← c.self.view_is, c.in_ok-begin.ensures)
    (on_ok_so c.push.result _ _
    (λ pushed. opens_line c.args.channel (record { agent = c.self.inside.agent; lines = c.self.inside.lines }) c.in_ok-opened.field-0 c.opened.new.self c.push.new.self (begun c.args.channel c.args.sending.now)
    c.in_ok-opened.ensures.opened c.if-branch.true
    (pushed ∙ ap (λ (waiting : List Came). c.self.inside.lines ++ (record { channel = c.args.channel; item = waiting }) ∷ []) c.new.ensures))
    c.push.ensures.ok)

pub returns : goal.returns
returns c =
    rw (← c.self.view_is)
    (refuses_line c.args.channel (record { agent = c.self.inside.agent; lines = c.self.inside.lines }) c.in_ok-opened.field-0 c.opened.new.self (begun c.args.channel c.args.sending.now) c.queue.new.self
    c.close.new.self c.in_ok-opened.ensures.opened c.if-branch.false
    (c.in_ok-queue.ensures ∙ ap (λ (rows : Rows). ordered (queues c.args.channel (3 ∷ 2 ∷ [])) rows) c.in_ok-begin.ensures) c.close.ensures)
