use Rattle.std.proofs.Common.{drop}
use Rattle.log_check.specs.Matching.{passing_numbers}
use Rattle.log_check.specs.Sorts.{as_accepted}
use Rattle.log_check.proofs.Running.{answered_last, answered_next, answered_not}
use Rattle.log_check.proofs.executed.are_answered.Goals as goal

pub loop-line-preserved : goal.loop-line-preserved
loop-line-preserved c =
    answered_next (as_accepted c.args.commands.now) c.args.lines.now c.loop-line.left.now c.in-Some.after.now c.in-Some.line.now (passing_numbers c.args.commands.now)
    (passing_numbers (drop c.loop-line.done c.args.commands.now)) (passing_numbers (drop c.in-Some-answer_on.next c.args.commands.now)) c.loop-line.invariant c.in-Some.ensures.some
    c.in-Some-answer_on.ensures

pub returns-in-None : goal.returns-in-None
returns-in-None c =
    answered_not (as_accepted c.args.commands.now) c.args.lines.now c.loop-line.left.now c.in-Some.after.now c.in-Some.line.now (passing_numbers c.args.commands.now)
    (passing_numbers (drop c.loop-line.done c.args.commands.now)) c.loop-line.invariant c.in-Some.ensures.some c.in-None.ensures

pub returns : goal.returns
returns c =
    answered_last (as_accepted c.args.commands.now) c.args.lines.now c.loop-line.left.now (passing_numbers c.args.commands.now) (passing_numbers (drop c.loop-line.done c.args.commands.now))
    c.loop-line.invariant c.in_default.ensures.none
