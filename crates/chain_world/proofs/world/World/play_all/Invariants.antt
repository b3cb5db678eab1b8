use Rattle.std.proofs.Common.{◌≡◌, drop, length}
use Rattle.tcf_schedules.specs.Plan.{plans_of}
use Rattle.chain_world.specs.World.{run}
use Rattle.chain_world.proofs.world.World.play_all.Given as goal

-- the steps that are left lead to the same world
abbrev pub invariant-loop-step : goal.invariant-loop-step
invariant-loop-step l = record {
  same : run (plans_of l.steps) l.initial.self ≡ run (plans_of (drop l.step-index l.steps)) l.self;
  chains : length l.self.chains ≡ length l.initial.self.chains;
}
