use Rattle.std.proofs.Common.{◌≡◌, ◌-◌}
use Rattle.agent_serving.specs.Ticking.{after_passes}
use Rattle.agent_serving.proofs.ticking.idle.Given as goal

-- the passes so far and then the others come to the same
abbrev pub invariant-loop : goal.invariant-loop
invariant-loop l = after_passes 256 256 l.initial.agent ≡ after_passes (256 - l.counter) l.left l.agent
