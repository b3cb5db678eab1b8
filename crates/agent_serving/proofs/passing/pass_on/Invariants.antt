use Rattle.std.proofs.Common.{◌≡◌, length}
use Rattle.agent_serving.specs.Passing.{given_all, or_before}
use Rattle.agent_serving.proofs.passing.pass_on.Given as goal

-- what was given so far and then what still waits come to the same
abbrev pub invariant-loop-came : goal.invariant-loop-came
invariant-loop-came l = or_before l.is_over (given_all l.channel l.intake l.agent) ≡ or_before l.initial.is_over (given_all l.channel l.initial.intake l.initial.agent)

abbrev pub decreases-loop-came : goal.decreases-loop-came
decreases-loop-came l = length l.intake
