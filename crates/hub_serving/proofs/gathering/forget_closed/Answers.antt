use Rattle.std.proofs.Common.{◌-◌, refl, sym, ◌∙◌}
use Rattle.hub_serving.proofs.Collecting.{begins_whole, forgets_next, keeps_next}
use Rattle.hub_serving.proofs.gathering.forget_closed.Goals as goal
use Rattle.hub_serving.proofs.gathering.forget_closed.Goals.{then-is_over_at, else-is_over_at}

pub loop-done-init : goal.loop-done-init
loop-done-init c = begins_whole c.args.hub.now c.len-count.result c.args.lines.now c.len-count.ensures

pub loop-done-preserved : goal.loop-done-preserved
loop-done-preserved c =
    elim c.if-is_over_at.branch [
      | then-is_over_at w ↦
          rw w.lines-is (w.remove.ensures ∙ forgets_next c.args.hub.now c.len-count.result c.loop-done.done (c.len-count.result - 1 - c.loop-done.done) c.args.lines.now c.loop-done.lines c.len-count.ensures c.loop-done-test.true refl
          c.loop-done.invariant (sym c.is_over_at.ensures ∙ w.if-is_over_at.true))
      | else-is_over_at w ↦
          rw w.lines-is (keeps_next c.args.hub.now c.len-count.result c.loop-done.done (c.len-count.result - 1 - c.loop-done.done) c.args.lines.now c.loop-done.lines c.len-count.ensures c.loop-done-test.true refl
          c.loop-done.invariant (sym c.is_over_at.ensures ∙ w.if-is_over_at.false))
    ]
