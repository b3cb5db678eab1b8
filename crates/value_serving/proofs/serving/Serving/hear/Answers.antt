use Rattle.std.proofs.Common.{sym}
use Rattle.value_serving.specs.Serving.{heard_on}
use Rattle.value_serving.proofs.Hearing.{broken_with_all, heard_in_part, heard_of_none, heard_so, made_with_all}
use Rattle.value_serving.proofs.serving.Serving.hear.Goals as goal
use Rattle.serving_wires.proofs.Flushes.{on_any as on_err}

pub returns-in_err-hear_at-clause-err : goal.returns-in_err-hear_at-clause-err
returns-in_err-hear_at-clause-err g c =
    rw (← c.self.view_is)
    (on_err c.from_residual.result _
    (broken_with_all c.self.inside.peer _ (record { peer = c.self.inside.peer; adds = c.self.inside.adds }) (heard_on c.args.channel c.args.came c.self.inside.adds) c.args.sending.now _ _
    (heard_in_part c.self.inside.peer c.as_str.result.now _ c.args.channel c.in-Some.place c.in-Some.side c.args.came c.self.inside.adds c.args.sending.now _ _ c.as_str.ensures
    (sym c.in-Some.ensures) c.in_err-hear_at.ensures.err)))

pub returns-in_ok-hear_at-clause-ok : goal.returns-in_ok-hear_at-clause-ok
returns-in_ok-hear_at-clause-ok g c =
    rw (← c.self.view_is)
    (made_with_all c.self.inside.peer _ _ (record { peer = c.self.inside.peer; adds = c.self.inside.adds }) (heard_on c.args.channel c.args.came c.self.inside.adds)
    c.forget_closed.new.adds c.args.sending.now c.hear_at.new.sending _ _
    (heard_so c.self.inside.peer c.as_str.result.now _ _ c.args.channel c.in-Some.place c.in-Some.side c.args.came c.self.inside.adds c.hear_at.new.adds c.forget_closed.new.adds
    c.args.sending.now c.hear_at.new.sending _ _ c.as_str.ensures (sym c.in-Some.ensures) c.forget_closed.ensures c.in_ok-hear_at.ensures.ok))

pub returns-in_default-clause-ok : goal.returns-in_default-clause-ok
returns-in_default-clause-ok g c =
    rw (← c.self.view_is)
    (made_with_all c.self.inside.peer _ _ (record { peer = c.self.inside.peer; adds = c.self.inside.adds }) (heard_on c.args.channel c.args.came c.self.inside.adds) c.self.inside.adds
    c.args.sending.now c.args.sending.now _ _
    (heard_of_none c.self.inside.peer _ c.args.channel c.args.came c.self.inside.adds c.args.sending.now _ (sym c.in_default.ensures)))
