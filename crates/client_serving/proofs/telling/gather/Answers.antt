use Rattle.std.proofs.Common.{List, ℕ, ap, sym, ◌∙◌}
use Rattle.channel_core.specs.declared.held.Outgoing.{Outgoing}
use Rattle.serving_wires.specs.Order.{queues}
use Rattle.serving_wires.specs.Sending.{ordered}
use Rattle.serving_wires.proofs.Leading.{Rows}
use Rattle.client_serving.specs.Begun.{all_queued}
use Rattle.client_serving.specs.Serving.{queue_of}
use Rattle.client_serving.proofs.Gathering.{all_are_queued, gathered_at_last, goes_on}
use Rattle.client_serving.proofs.telling.gather.Goals as goal

pub loop-outgoing-smaller : goal.loop-outgoing-smaller
loop-outgoing-smaller c =
    let goes = goes_on c.loop-outgoing.client c.take_out.new.self c.in-Some.outgoing (sym c.in-Some.ensures.given) c.in-Some.ensures.after in goes.fewer

pub loop-outgoing-preserved : goal.loop-outgoing-preserved
loop-outgoing-preserved c =
    let goes = goes_on c.loop-outgoing.client c.take_out.new.self c.in-Some.outgoing (sym c.in-Some.ensures.given) c.in-Some.ensures.after in
    let left = queue_of c.take_out.new.self.channel in
    record {
      client = goes.same ∙ c.loop-outgoing.invariant.client;
      queue =
          ap (λ (rows : Rows). all_queued c.args.channel left rows)
          (c.in_ok-queue.ensures ∙ ap (λ (bytes : List ℕ). ordered (queues c.args.channel bytes) c.loop-outgoing.sending) c.as_slice.ensures)
          ∙ ap (λ (outs : List Outgoing). all_queued c.args.channel outs c.loop-outgoing.sending) (sym goes.queue) ∙ c.loop-outgoing.invariant.queue;
    }

pub returns-clause-client : goal.returns-clause-client
returns-clause-client c =
    gathered_at_last c.args.client.now c.loop-outgoing.client _ (sym c.in_default.ensures.given) c.in_default.ensures.after c.loop-outgoing.invariant.client

pub returns-clause-sending : goal.returns-clause-sending
returns-clause-sending c =
    all_are_queued c.args.channel c.args.client.now c.loop-outgoing.client c.args.sending.now c.loop-outgoing.sending (sym c.in_default.ensures.given) c.loop-outgoing.invariant.queue
