use Rattle.std.proofs.Common.{arith}
use Rattle.log_check.proofs.Options.{isnt_so}
use Rattle.log_check.proofs.judging.first_broken.Goals as goal

pub is_fresh-requires-clause-placed : goal.is_fresh-requires-clause-placed
is_fresh-requires-clause-placed c = let set = c.if-not-is_placed.false in c.is_placed.ensures.0 (grind (arith, set))

pub is_fresh-requires-clause-executed : goal.is_fresh-requires-clause-executed
is_fresh-requires-clause-executed c = let set = c.if-not-branch-4.false in c.in_ok-is_executed.ensures.0 (grind (arith, set))

pub returns-then-not-branch : goal.returns-then-not-branch
returns-then-not-branch c =
    let unset = c.if-not-branch.true in
    (tt, isnt_so c.in_ok-is_legal.field-0 (grind (arith, unset)) c.in_ok-is_legal.ensures)

pub returns-then-not-branch-2 : goal.returns-then-not-branch-2
returns-then-not-branch-2 c =
    let set0 = c.if-not-branch.false in
    let unset = c.if-not-branch-2.true in
    ((c.in_ok-is_legal.ensures.0 (grind (arith, set0)), tt), isnt_so c.in_ok-is_once.field-0 (grind (arith, unset)) c.in_ok-is_once.ensures)

pub returns-then-not-is_placed : goal.returns-then-not-is_placed
returns-then-not-is_placed c =
    let set0 = c.if-not-branch.false in
    let set1 = c.if-not-branch-2.false in
    let unset = c.if-not-is_placed.true in
    ((c.in_ok-is_legal.ensures.0 (grind (arith, set0)), (c.in_ok-is_once.ensures.0 (grind (arith, set1)), tt)), isnt_so c.is_placed.result (grind (arith, unset)) c.is_placed.ensures)

pub returns-then-not-branch-3 : goal.returns-then-not-branch-3
returns-then-not-branch-3 c =
    let set0 = c.if-not-branch.false in
    let set1 = c.if-not-branch-2.false in
    let set2 = c.if-not-is_placed.false in
    let unset = c.if-not-branch-3.true in
    ((c.in_ok-is_legal.ensures.0 (grind (arith, set0)), (c.in_ok-is_once.ensures.0 (grind (arith, set1)), (c.is_placed.ensures.0 (grind (arith, set2)), tt))), isnt_so c.in_ok-is_in_order.field-0 (grind (arith, unset)) c.in_ok-is_in_order.ensures)

pub returns-then-not-branch-4 : goal.returns-then-not-branch-4
returns-then-not-branch-4 c =
    let set0 = c.if-not-branch.false in
    let set1 = c.if-not-branch-2.false in
    let set2 = c.if-not-is_placed.false in
    let set3 = c.if-not-branch-3.false in
    let unset = c.if-not-branch-4.true in
    ((c.in_ok-is_legal.ensures.0 (grind (arith, set0)), (c.in_ok-is_once.ensures.0 (grind (arith, set1)), (c.is_placed.ensures.0 (grind (arith, set2)), (c.in_ok-is_in_order.ensures.0 (grind (arith, set3)), tt)))), isnt_so c.in_ok-is_executed.field-0 (grind (arith, unset)) c.in_ok-is_executed.ensures)

pub returns-then-not-branch-5 : goal.returns-then-not-branch-5
returns-then-not-branch-5 c =
    let set0 = c.if-not-branch.false in
    let set1 = c.if-not-branch-2.false in
    let set2 = c.if-not-is_placed.false in
    let set3 = c.if-not-branch-3.false in
    let set4 = c.if-not-branch-4.false in
    let unset = c.if-not-branch-5.true in
    ((c.in_ok-is_legal.ensures.0 (grind (arith, set0)), (c.in_ok-is_once.ensures.0 (grind (arith, set1)), (c.is_placed.ensures.0 (grind (arith, set2)), (c.in_ok-is_in_order.ensures.0 (grind (arith, set3)), (c.in_ok-is_executed.ensures.0 (grind (arith, set4)), tt))))), isnt_so c.in_ok-is_fresh.field-0 (grind (arith, unset)) c.in_ok-is_fresh.ensures)

pub returns : goal.returns
returns c =
    let set0 = c.if-not-branch.false in
    let set1 = c.if-not-branch-2.false in
    let set2 = c.if-not-is_placed.false in
    let set3 = c.if-not-branch-3.false in
    let set4 = c.if-not-branch-4.false in
    let set5 = c.if-not-branch-5.false in
    (c.in_ok-is_legal.ensures.0 (grind (arith, set0)), (c.in_ok-is_once.ensures.0 (grind (arith, set1)), (c.is_placed.ensures.0 (grind (arith, set2)), (c.in_ok-is_in_order.ensures.0 (grind (arith, set3)), (c.in_ok-is_executed.ensures.0 (grind (arith, set4)), (c.in_ok-is_fresh.ensures.0 (grind (arith, set5)), tt))))))
