use Rattle.std.proofs.Common.{◌≡◌, ◌-◌}
use Rattle.tcf_schedules.specs.Plan.{plan_of}
use Rattle.chain_world.specs.World.{played, repeated}
use Rattle.chain_world.proofs.world.World.play_times.Given as goal

abbrev pub invariant-loop-counter : goal.invariant-loop-counter
invariant-loop-counter l = repeated l.count (played (plan_of l.step)) l.initial.self ≡ repeated (l.count - l.counter) (played (plan_of l.step)) l.self
