use Rattle.hub_serving.proofs.Collecting.{GathersTo}
use Rattle.hub_serving.proofs.gathering.gather_all.Given as goal

-- the lines so far, and then the others
abbrev pub invariant-loop-place : goal.invariant-loop-place
invariant-loop-place l = GathersTo l.lines l.initial.hub l.initial.sending l.place l.hub l.sending
