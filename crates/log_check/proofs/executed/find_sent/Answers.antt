use Rattle.std.proofs.Common.{◌+◌, arith, drop, refl, sym}
use Rattle.std.proofs.lemmas.Bool.{ltb-false}
use Rattle.std.proofs.lemmas.Option.{slice_get_past, slice_get_read}
use Rattle.log_check.specs.Matching.{as_read, read_as}
use Rattle.log_check.proofs.Running.{found_here, found_next, found_nowhere}
use Rattle.log_check.proofs.executed.find_sent.Goals as goal

pub returns-then-branch : goal.returns-then-branch
returns-then-branch c =
    let there = slice_get_read c.args.commands.now _ c.loop-sent.at c.in-Some.sent.now refl c.in-Some.ensures.lookup.3.0 c.in-Some.ensures.lookup.1 in
    let set = c.if-branch.true in
    found_here (read_as c.args.executed) (as_read (drop c.args.done c.args.commands.now)) c.args.commands.now c.loop-sent.at (c.loop-sent.at + 1) c.in-Some.sent.now c.in_ok-is_same.field-0
    c.loop-sent.invariant there refl (grind (arith, set)) c.in_ok-is_same.ensures

pub loop-sent-preserved : goal.loop-sent-preserved
loop-sent-preserved c =
    let there = slice_get_read c.args.commands.now _ c.loop-sent.at c.in-Some.sent.now refl c.in-Some.ensures.lookup.3.0 c.in-Some.ensures.lookup.1 in
    let unset = c.if-branch.false in
    found_next (read_as c.args.executed) (as_read (drop c.args.done c.args.commands.now)) c.args.commands.now c.loop-sent.at (c.loop-sent.at + 1) c.in-Some.sent.now c.in_ok-is_same.field-0
    c.loop-sent.invariant there refl (grind (arith, unset)) c.in_ok-is_same.ensures

pub returns : goal.returns
returns c =
    found_nowhere (read_as c.args.executed) (as_read (drop c.args.done c.args.commands.now)) c.args.commands.now c.loop-sent.at c.loop-sent.invariant
    (slice_get_past c.args.commands.now c.loop-sent.at (ltb-false _ _ (sym c.in_default.ensures.lookup.0)))
