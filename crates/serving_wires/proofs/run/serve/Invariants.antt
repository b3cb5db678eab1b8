use Rattle.serving_wires.specs.Calls.{Makes}
use Rattle.serving_wires.proofs.Ending.{RunsSo}
use Rattle.serving_wires.proofs.run.serve.Given as goal

-- so many events were taken, and all that came of them is put
abbrev pub invariant-loop-before : goal.invariant-loop-before
invariant-loop-before g l =
    Makes (RunsSo g.S.Served.behaviour (record { served = l.fn.served; sending = l.fn.sending }) (g.W.Wires.seen l.fn.wires).unused l.before
    (record { served = l.served; sending = l.sending }) (g.W.Wires.seen l.wires).unused)
    (g.W.Wires.seen l.fn.wires) (g.W.Wires.seen l.wires)
