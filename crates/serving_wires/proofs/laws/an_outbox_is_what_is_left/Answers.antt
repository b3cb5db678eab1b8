use Rattle.serving_wires.proofs.Carrying.{begins, closing, flushing, others, queueing}
use Rattle.serving_wires.proofs.laws.an_outbox_is_what_is_left.Goals as goal

pub returns : goal.returns
returns c = record { begins = begins; queueing = queueing; closing = closing; others = others; flushing = flushing }
