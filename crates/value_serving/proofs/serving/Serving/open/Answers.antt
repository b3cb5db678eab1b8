use Rattle.std.proofs.Common.{arith, refl}
use Rattle.value_serving.specs.Adds.{new_add}
use Rattle.value_serving.specs.Serving.{opened}
use Rattle.value_serving.proofs.Hearing.{opens, sends_away, with_all}
use Rattle.value_serving.proofs.Results.{on_ok_same}
use Rattle.value_serving.proofs.serving.Serving.open.Goals as goal

pub returns-then-len-ge-MOST-clause-ok : goal.returns-then-len-ge-MOST-clause-ok
returns-then-len-ge-MOST-clause-ok c =
    rw (← c.self.view_is)
    (λ unused. with_all c.self.inside.peer unused unused (record { peer = c.self.inside.peer; adds = c.self.inside.adds }) (opened c.self.inside.peer c.args.channel c.self.inside.adds)
    c.self.inside.adds _ _ _
    (sends_away c.self.inside.peer unused c.args.channel c.self.inside.adds c.args.sending.now c.begin.new.self c.queue.new.self c.close.new.self
    (omega (arith, c.if-len-ge-MOST.true, c.len.ensures)) c.in_ok-begin.ensures c.in_ok-queue.ensures c.close.ensures))

pub returns-clause-peer : goal.returns-clause-peer
returns-clause-peer c = rw (← c.self.view_is) (on_ok_same c.push.result _ _ (λ pushed. refl) c.push.ensures.ok)

pub returns-clause-ok : goal.returns-clause-ok
returns-clause-ok c =
    rw (← c.self.view_is)
    (on_ok_same c.push.result _ _
    (λ pushed unused. with_all c.self.inside.peer unused unused (record { peer = c.self.inside.peer; adds = c.self.inside.adds })
    (opened c.self.inside.peer c.args.channel c.self.inside.adds) c.push.new.self _ _ _
    (opens c.self.inside.peer unused c.args.channel c.self.inside.adds c.push.new.self (new_add c.self.inside.peer c.args.channel) c.in_ok-add.add c.args.sending.now c.begin.new.self c.greet.new.sending
    (omega (arith, c.if-len-ge-MOST.false, c.len.ensures)) c.in_ok-begin.ensures refl (c.in_ok-add.ensures c.self.inside.peer unused) pushed))
    c.push.ensures.ok)
