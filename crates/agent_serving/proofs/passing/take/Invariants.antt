use Rattle.std.proofs.Common.{◌≡◌, ◌-◌, ◌||◌}
use Rattle.agent_serving.specs.Passing.{after_turns, end_is_taken}
use Rattle.agent_serving.proofs.passing.take.Given as goal

-- the turns so far and then the others come to the same
abbrev pub invariant-loop : goal.invariant-loop
invariant-loop l = record {
  agent : after_turns l.count l.channel l.initial.agent ≡ after_turns (l.count - l.counter) l.channel l.agent;
  over : end_is_taken l.count l.channel l.initial.agent ≡ l.is_over || end_is_taken (l.count - l.counter) l.channel l.agent;
}
