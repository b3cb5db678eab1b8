use Rattle.agent_serving.specs.Gathering.{all_gathered}
use Rattle.agent_serving.proofs.Telling.{Alone, Rest}
use Rattle.agent_serving.proofs.gathering.gather_all.Given as goal

-- the channels so far, and then the others
abbrev pub invariant-loop-place : goal.invariant-loop-place
invariant-loop-place l = Alone (all_gathered l.lines l.initial.agent) (Rest l.place l.lines l.agent) l.initial.sending l.sending
