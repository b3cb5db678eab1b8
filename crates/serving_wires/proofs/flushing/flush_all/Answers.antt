use Rattle.std.proofs.Common.{sym}
use Rattle.serving_wires.proofs.Flushes.{never_missing, on_any, put_begins, put_cut, put_done, put_step, within_olds}
use Rattle.serving_wires.proofs.flushing.flush_all.Goals as goal
use Rattle.serving_wires.proofs.flushing.flush_all.Goals.{in-Some+in_ok-flush_wire, in_default}

pub loop-place-init : goal.loop-place-init
loop-place-init g c = put_begins g.T.OnWire.has c.args.rows.now _

pub returns-in_err-flush_wire-clause-err : goal.returns-in_err-flush_wire-clause-err
returns-in_err-flush_wire-clause-err g c =
    on_any c.from_residual.result _
    (put_cut g.T.OnWire.has c.loop-place.place c.args.rows.now c.loop-place.rows c.in-Some.item.now _ _ _ c.loop-place.invariant (sym c.in-Some.ensures.value) c.in_err-flush_wire.ensures.err)

pub loop-place-preserved : goal.loop-place-preserved
loop-place-preserved g c =
    elim c.match-get_mut.branch [
      | in-Some+in_ok-flush_wire w ↦
          rw (w.rows-is, w.wires-is) (put_step g.T.OnWire.has c.loop-place.place c.args.rows.now c.loop-place.rows w.in-Some.item.now w.flush_wire.new.self _ _ _
          c.loop-place.invariant (sym w.in-Some.ensures.value) w.in_ok-flush_wire.ensures.kept w.in_ok-flush_wire.ensures.ok)
      | in_default w ↦
          absurd (never_missing c.loop-place.place c.loop-place.rows (sym w.in_default.ensures.value)
          (within_olds c.loop-place.place c.len-count.result c.args.rows.now c.loop-place.rows c.loop-place-test.true c.len-count.ensures c.loop-place.invariant.count))
    ]

pub returns-clause-ok : goal.returns-clause-ok
returns-clause-ok g c =
    put_done g.T.OnWire.has c.loop-place.place c.len-count.result c.args.rows.now c.loop-place.rows _ _ c.loop-place.invariant c.len-count.ensures c.loop-place-test.false
