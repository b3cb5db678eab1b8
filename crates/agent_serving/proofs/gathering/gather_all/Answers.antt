use Rattle.std.proofs.Common.{sym}
use Rattle.agent_serving.specs.Gathering.{all_gathered}
use Rattle.agent_serving.proofs.Telling.{alone_none, gathers_done, gathers_next, gathers_nowhere}
use Rattle.agent_serving.proofs.gathering.gather_all.Goals as goal
use Rattle.agent_serving.proofs.gathering.gather_all.Goals.{in-Some+in_ok-gather, in_default}

pub loop-place-init : goal.loop-place-init
loop-place-init c = alone_none (all_gathered c.args.lines.now c.args.agent.now) c.args.sending.now

pub loop-place-preserved : goal.loop-place-preserved
loop-place-preserved c =
    elim c.match-channel_at.branch [
      | in-Some+in_ok-gather w ↦
          rw (w.agent-is, w.sending-is)
          (gathers_next c.loop-place.place w.in-Some.channel c.args.lines.now c.args.agent.now c.loop-place.agent w.gather.new.agent c.args.sending.now c.loop-place.sending w.gather.new.sending
          (sym w.in-Some.ensures) w.in_ok-gather.ensures c.loop-place.invariant)
      | in_default w ↦
          rw (w.agent-is, w.sending-is)
          (gathers_nowhere c.loop-place.place c.args.lines.now c.args.agent.now c.loop-place.agent c.args.sending.now c.loop-place.sending (sym w.in_default.ensures) c.loop-place.invariant)
    ]

pub returns : goal.returns
returns c =
    gathers_done c.loop-place.place c.len-place-end.result c.args.lines.now c.args.agent.now c.loop-place.agent c.args.sending.now c.loop-place.sending c.len-place-end.ensures c.loop-place-test.false
    c.loop-place.invariant
