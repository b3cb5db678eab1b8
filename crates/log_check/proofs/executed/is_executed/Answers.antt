use Rattle.std.proofs.Common.{arith, subst, sym}
use Rattle.target_hub.specs.Ordered.{ExecutesItsCommands}
use Rattle.log_check.specs.Sorts.{AreOfLog}
use Rattle.log_check.proofs.Options.{ok_then}
use Rattle.log_check.proofs.Running.{executes, not_answered, not_through}
use Rattle.log_check.proofs.Standing.{no_channel}
use Rattle.log_check.proofs.executed.is_executed.Goals as goal

pub returns-in_default : goal.returns-in_default
returns-in_default c = no_channel c.args.inputs.now c.args.lines.now (ExecutesItsCommands c.args.inputs.now c.args.lines.now) c.in_default.ensures.none

pub returns-then-not-are_answered : goal.returns-then-not-are_answered
returns-then-not-are_answered c =
    let of = subst (AreOfLog c.args.lines.now) (sym c.as_slice-commands.ensures.value) c.in_ok-found.ensures in
    let answered = c.if-not-are_answered.true in
    not_answered c.args.inputs.now c.args.lines.now c.from_hello.result.now c.as_slice-commands.result.now c.in-Some.channel c.are_answered.result c.in-Some.ensures.some of c.from_hello.ensures
    (grind (arith, answered)) c.are_answered.ensures

pub returns-then-not-branch : goal.returns-then-not-branch
returns-then-not-branch c =
    let of = subst (AreOfLog c.args.lines.now) (sym c.as_slice-commands.ensures.value) c.in_ok-found.ensures in
    let through = c.if-not-branch.true in
    not_through c.args.inputs.now c.args.lines.now c.as_slice-commands.result.now c.in-Some.channel c.in_ok-are_through.field-0 c.in-Some.ensures.some of (grind (arith, through)) c.in_ok-are_through.ensures

pub returns : goal.returns
returns c =
    let of = subst (AreOfLog c.args.lines.now) (sym c.as_slice-commands.ensures.value) c.in_ok-found.ensures in
    let answered = c.if-not-are_answered.false in
    let through = c.if-not-branch.false in
    ok_then c.are_sent.result _ _
    (λ flag left.
    executes c.args.inputs.now c.args.lines.now c.from_hello.result.now c.as_slice-commands.result.now c.in-Some.channel c.are_answered.result c.in_ok-are_through.field-0 flag c.in-Some.ensures.some of
    c.from_hello.ensures (grind (arith, answered)) c.are_answered.ensures (grind (arith, through)) c.in_ok-are_through.ensures left)
    c.are_sent.ensures
