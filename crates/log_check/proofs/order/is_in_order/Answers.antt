use Rattle.std.proofs.Common.{subst, sym}
use Rattle.target_hub.specs.Ordered.{IsToldInOrder}
use Rattle.log_check.specs.Sorts.{AreOfLog}
use Rattle.log_check.proofs.Options.{ok_then}
use Rattle.log_check.proofs.Standing.{no_channel, on_channel}
use Rattle.log_check.proofs.order.is_in_order.Goals as goal

pub returns-in_default : goal.returns-in_default
returns-in_default c =
    no_channel c.args.inputs.now c.args.lines.now (IsToldInOrder c.args.images.now c.args.inputs.now c.args.lines.now) c.in_default.ensures.none

pub returns : goal.returns
returns c =
    let of = subst (AreOfLog c.args.lines.now) (sym c.as_slice-commands.ensures.value) c.in_ok-found.ensures in
    ok_then c.is_told.result _ _
    (λ flag tells.
    on_channel c.args.images.now c.args.inputs.now c.args.lines.now c.from_hello.result.now c.as_slice-commands.result.now c.in-Some.channel flag c.in-Some.ensures.some of c.from_hello.ensures tells)
    c.is_told.ensures
