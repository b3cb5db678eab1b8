use Rattle.std.proofs.Common.{◌∙◌}
use Rattle.tcf_schedules.specs.Plan.{plan_of}
use Rattle.chain_world.proofs.Sizes.{each_playable, one_step, sizes_kept}
use Rattle.chain_world.proofs.world.World.play_all.Goals as goal

pub play-requires : goal.play-requires
play-requires c = each_playable _ _ _ c.requires c.loop-step-test.true c.step-item.is

pub loop-step-preserved : goal.loop-step-preserved
loop-step-preserved c = record {
  same = c.loop-step.invariant.same ∙ one_step _ _ _ _ _ c.loop-step-test.true c.step-item.is c.in_ok-play.ensures.played;
  chains = sizes_kept (plan_of c.step-item.result) c.loop-step.self c.play.new.self c.args.self.now c.in_ok-play.ensures.played c.loop-step.invariant.chains;
}
