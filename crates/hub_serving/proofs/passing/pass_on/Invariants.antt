use Rattle.hub_serving.specs.Passing.{all_unread}
use Rattle.hub_serving.proofs.Giving.{Gives}
use Rattle.hub_serving.proofs.passing.pass_on.Given as goal

-- what was given so far, and then the rest
abbrev pub invariant-loop-place : goal.invariant-loop-place
invariant-loop-place l = Gives l.fn.lines l.fn.hub l.next l.lines l.hub

abbrev pub decreases-loop-place : goal.decreases-loop-place
decreases-loop-place l = all_unread l.lines
