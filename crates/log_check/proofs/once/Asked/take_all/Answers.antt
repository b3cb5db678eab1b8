use Rattle.std.proofs.Common.{arith}
use Rattle.log_check.proofs.Onces.{once_not}
use Rattle.log_check.proofs.once.Asked.take_all.Goals as goal

pub returns-then-not-branch : goal.returns-then-not-branch
returns-then-not-branch c =
    let isnt = c.if-not-branch.true in
    once_not c.args.lines.now c.loop-line.left.now c.in-Some.after.now c.loop-line.self c.in-Some.line.now c.in_ok-take.field-0 c.loop-line.invariant c.in-Some.ensures.some (grind (arith, isnt))
    c.in_ok-take.ensures.stands
