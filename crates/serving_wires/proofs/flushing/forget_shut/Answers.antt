use Rattle.std.proofs.Common.{◌-◌, refl, sym, ◌∙◌}
use Rattle.serving_wires.proofs.Forgetting.{begins_whole, forgets_next, keeps_next}
use Rattle.serving_wires.proofs.flushing.forget_shut.Goals as goal
use Rattle.serving_wires.proofs.flushing.forget_shut.Goals.{then-is_shut_at, else-is_shut_at}

pub loop-done-init : goal.loop-done-init
loop-done-init g c = begins_whole g.T.OnWire.has c.len-count.result c.args.rows.now c.len-count.ensures

pub loop-done-preserved : goal.loop-done-preserved
loop-done-preserved g c =
    elim c.if-is_shut_at.branch [
      | then-is_shut_at w ↦
          rw w.rows-is (w.remove.ensures ∙ forgets_next g.T.OnWire.has c.len-count.result c.loop-done.done (c.len-count.result - 1 - c.loop-done.done) c.args.rows.now c.loop-done.rows c.len-count.ensures c.loop-done-test.true refl
          c.loop-done.invariant (sym c.is_shut_at.ensures ∙ w.if-is_shut_at.true))
      | else-is_shut_at w ↦
          rw w.rows-is (keeps_next g.T.OnWire.has c.len-count.result c.loop-done.done (c.len-count.result - 1 - c.loop-done.done) c.args.rows.now c.loop-done.rows c.len-count.ensures c.loop-done-test.true refl
          c.loop-done.invariant (sym c.is_shut_at.ensures ∙ w.if-is_shut_at.false))
    ]
