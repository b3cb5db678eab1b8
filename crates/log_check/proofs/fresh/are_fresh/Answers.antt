use Rattle.std.proofs.Common.{◌∙◌, ap, arith}
use Rattle.target_hub.specs.HubValue.{HubValue}
use Rattle.log_check.proofs.Freshness.{fresh_first, fresh_last, fresh_next, fresh_not, not_reached, usable_fresh}
use Rattle.log_check.proofs.fresh.are_fresh.Goals as goal

pub loop-line-init : goal.loop-line-init
loop-line-init c =
    record {
      fresh = c.requires.fresh;
      so = λ images k at. fresh_first images c.args.lines.now c.args.inputs.now k c.args.commands.now c.args.barriers.now c.args.hub.now at;
    }

pub is_fresh_line-requires-clause-fresh : goal.is_fresh_line-requires-clause-fresh
is_fresh_line-requires-clause-fresh c = let there = c.if-not-branch.false in usable_fresh _ _ (c.in_ok-go_to.ensures.after (grind (arith, there)))

pub loop-line-preserved : goal.loop-line-preserved
loop-line-preserved c =
    let there = c.if-not-branch.false in
    let told = c.if-not-branch-2.false in
    record {
      fresh = ap (λ (h : HubValue). h.is_spent) c.in_ok-is_fresh_line.ensures.stays ∙ usable_fresh _ _ (c.in_ok-go_to.ensures.after (grind (arith, there)));
      so = λ images k at.
          fresh_next images c.args.lines.now c.args.inputs.now k c.args.commands.now c.args.barriers.now c.loop-line.left.now c.in-Some.after.now c.loop-line.later.now c.behind-later.result.now
          c.loop-line.position c.position_for-next.result c.args.hub.now c.loop-line.hub c.go_to.new.hub c.is_fresh_line.new.hub c.in-Some.line.now c.in_ok-go_to.field-0 c.in_ok-is_fresh_line.field-0
          at c.requires.sorted (c.loop-line.invariant.so images k at) c.in-Some.ensures.some c.position_for-next.ensures (grind (arith, there)) c.in_ok-go_to.ensures.reached c.in_ok-go_to.ensures.after
          c.behind-later.ensures (grind (arith, told)) c.in_ok-is_fresh_line.ensures.fresh c.in_ok-is_fresh_line.ensures.stays;
    }

pub returns-then-not-branch : goal.returns-then-not-branch
returns-then-not-branch c =
    let there = c.if-not-branch.true in
    λ images k at.
    not_reached images c.args.lines.now c.args.inputs.now k c.args.commands.now c.args.barriers.now c.loop-line.left.now c.in-Some.after.now c.loop-line.later.now c.loop-line.position
    c.position_for-next.result c.args.hub.now c.loop-line.hub c.in-Some.line.now c.in_ok-go_to.field-0 at (c.loop-line.invariant.so images k at) c.in-Some.ensures.some c.position_for-next.ensures
    (grind (arith, there)) c.in_ok-go_to.ensures.reached

pub returns-then-not-branch-2 : goal.returns-then-not-branch-2
returns-then-not-branch-2 c =
    let there = c.if-not-branch.false in
    let told = c.if-not-branch-2.true in
    λ images k at.
    fresh_not images c.args.lines.now c.args.inputs.now k c.args.commands.now c.args.barriers.now c.loop-line.left.now c.in-Some.after.now c.loop-line.later.now c.behind-later.result.now
    c.loop-line.position c.position_for-next.result c.args.hub.now c.loop-line.hub c.go_to.new.hub c.in-Some.line.now c.in_ok-go_to.field-0 c.in_ok-is_fresh_line.field-0 at c.requires.sorted
    (c.loop-line.invariant.so images k at) c.in-Some.ensures.some c.position_for-next.ensures (grind (arith, there)) c.in_ok-go_to.ensures.reached c.in_ok-go_to.ensures.after c.behind-later.ensures
    (grind (arith, told)) c.in_ok-is_fresh_line.ensures.fresh

pub returns : goal.returns
returns c =
    λ images k at.
    fresh_last images c.args.lines.now c.args.inputs.now c.args.commands.now c.args.barriers.now c.loop-line.left.now c.loop-line.later.now c.loop-line.position c.loop-line.hub
    (c.loop-line.invariant.so images k at) c.in_default.ensures.none
