use Rattle.serving_wires.specs.Calls.{Makes}
use Rattle.client_serving.proofs.Calling.{WaitsSo}
use Rattle.client_serving.proofs.run.serve.Given as goal

-- whoever has begun: so many events came, and the next one is waited for
abbrev pub invariant-loop-counter : goal.invariant-loop-counter
invariant-loop-counter g l =
    Makes (WaitsSo (record { served = l.fn.serving; sending = l.fn.sending }) (g.W.Wires.seen l.fn.wires).unused l.counter (record { served = l.serving; sending = l.sending }) (g.W.Wires.seen l.wires).unused)
    (g.W.Wires.seen l.fn.wires) (g.W.Wires.seen l.wires)
