use Rattle.std.proofs.Common.{refl, ap}
use Rattle.value_node.specs.ValueValue.{ValueValue}
use Rattle.value_serving.specs.Adds.{with_node}
use Rattle.value_serving.proofs.Hearing.{gathers_below, gathers_both}
use Rattle.value_serving.proofs.Results.{on_ok_both}
use Rattle.value_serving.proofs.passing.gather.Goals as goal

pub returns-in-Some : goal.returns-in-Some
returns-in-Some c =
    on_ok_both c.send-in-Some.result _ _ _
    (λ node sending peer unused. gathers_both peer unused c.in-Some.channel c.send.new.node c.send-in-Some.new.node c.args.add.now _ c.args.sending.now c.send.new.sending c.send-in-Some.new.sending
    c.in-Some.is c.in_ok-send.ensures.node c.in_ok-send.ensures.sending node sending refl)
    c.send-in-Some.ensures.node c.send-in-Some.ensures.sending

pub returns-in-None : goal.returns-in-None
returns-in-None c =
    λ peer unused. gathers_below peer unused c.args.add.now _ c.args.sending.now c.send.new.sending c.in-None.is
    (ap (λ (v : ValueValue). with_node v c.args.add.now) c.in_ok-send.ensures.node) c.in_ok-send.ensures.sending
