use Rattle.serving_wires.proofs.Flushes.{PutTo}
use Rattle.serving_wires.proofs.flushing.flush_all.Given as goal

-- the rows so far are flushed
abbrev pub invariant-loop-place : goal.invariant-loop-place
invariant-loop-place g l =
    PutTo g.T.OnWire.has l.place l.initial.rows l.rows (g.W.Wires.seen l.initial.wires) (g.W.Wires.seen l.wires)
