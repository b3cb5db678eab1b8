use Rattle.std.proofs.Common.{◌-◌}
use Rattle.serving_wires.specs.Calls.{Makes}
use Rattle.serving_wires.specs.Going.{Goes}
use Rattle.value_serving.specs.Passing.{taken}
use Rattle.value_serving.proofs.passing.take.Given as goal

-- the turns so far, and then the others
abbrev pub invariant-loop : goal.invariant-loop
invariant-loop g l =
    Makes (Goes l.fn.peer (g.W.Wires.seen l.fn.wires).unused (g.W.Wires.seen l.wires).unused (taken l.fn.count l.fn.add) (taken (l.fn.count - l.counter) l.add) l.fn.sending l.sending)
    (g.W.Wires.seen l.fn.wires) (g.W.Wires.seen l.wires)
