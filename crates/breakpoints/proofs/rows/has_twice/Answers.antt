use Rattle.std.proofs.Common.{false, true}
use Rattle.breakpoints.proofs.Fresh.{one_given}
use Rattle.breakpoints.proofs.rows.has_twice.Goals as goal

-- the first one's ID is given again
pub returns-then-is_given : goal.returns-then-is_given
returns-then-is_given c =
    one_given c.args.list.now c.loop-first.rest.now c.in-Some.later.now c.in-Some.first.now _ c.is_given.result true c.in-Some.ensures.cases.0 c.as_bytes.ensures c.is_given.ensures c.if-is_given.true c.loop-first.invariant

-- it isn't, so the others decide
pub loop-first-preserved : goal.loop-first-preserved
loop-first-preserved c =
    one_given c.args.list.now c.loop-first.rest.now c.in-Some.later.now c.in-Some.first.now _ c.is_given.result false c.in-Some.ensures.cases.0 c.as_bytes.ensures c.is_given.ensures c.if-is_given.false c.loop-first.invariant
