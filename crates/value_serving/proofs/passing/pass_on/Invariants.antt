use Rattle.value_serving.specs.Passing.{count_of}
use Rattle.value_serving.proofs.Rounds.{PassesTo}
use Rattle.value_serving.proofs.passing.pass_on.Given as goal

-- the rounds so far, and then the others
abbrev pub invariant-loop-add : goal.invariant-loop-add
invariant-loop-add g l =
    PassesTo l.fn.peer (g.W.Wires.seen l.fn.wires).unused (g.W.Wires.seen l.wires).unused l.fn.add l.add l.fn.sending l.sending
    (g.W.Wires.seen l.fn.wires) (g.W.Wires.seen l.wires)

abbrev pub decreases-loop-add : goal.decreases-loop-add
decreases-loop-add g l = count_of l.add
