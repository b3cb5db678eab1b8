use Rattle.std.proofs.Common.{List, ℕ, ap, sym, ◌∙◌}
use Rattle.serving_wires.specs.Order.{queues}
use Rattle.serving_wires.specs.Sending.{ordered}
use Rattle.agent_serving.specs.Gathering.{gathered}
use Rattle.agent_serving.proofs.Telling.{alone_none, gathers_none, gathers_one}
use Rattle.agent_serving.proofs.Queued.{agent_goes_on}
use Rattle.agent_serving.proofs.gathering.gather.Goals as goal

pub loop-outgoing-init : goal.loop-outgoing-init
loop-outgoing-init c = alone_none (gathered c.args.channel c.args.agent.now) c.args.sending.now

pub loop-outgoing-smaller : goal.loop-outgoing-smaller
loop-outgoing-smaller c =
    let goes = agent_goes_on c.args.channel c.loop-outgoing.agent c.take_out.new.self c.in-Some.outgoing (sym c.in-Some.ensures.given) c.in-Some.ensures.after in
    goes.fewer

pub loop-outgoing-preserved : goal.loop-outgoing-preserved
loop-outgoing-preserved c =
    gathers_one c.args.channel c.args.agent.now c.loop-outgoing.agent c.take_out.new.self c.in-Some.outgoing c.args.sending.now c.loop-outgoing.sending c.queue.new.self
    (sym c.in-Some.ensures.given) c.in-Some.ensures.after
    (c.in_ok-queue.ensures ∙ ap (λ (bytes : List ℕ). ordered (queues c.args.channel bytes) c.loop-outgoing.sending) c.as_slice.ensures)
    c.loop-outgoing.invariant

pub returns : goal.returns
returns c =
    gathers_none c.args.channel c.args.agent.now c.loop-outgoing.agent _ c.args.sending.now c.loop-outgoing.sending (sym c.in_default.ensures.given) c.in_default.ensures.after
    c.loop-outgoing.invariant
