use Rattle.hub_serving.specs.Passing.{all_entries}
use Rattle.hub_serving.proofs.Taking.{MakesRoom}
use Rattle.hub_serving.proofs.passing.make_room.Given as goal

-- the messages so far, and then the others
abbrev pub invariant-loop-hub : goal.invariant-loop-hub
invariant-loop-hub l = MakesRoom l.fn.next l.lines l.fn.hub l.next l.hub

abbrev pub decreases-loop-hub : goal.decreases-loop-hub
decreases-loop-hub l = all_entries l.hub
