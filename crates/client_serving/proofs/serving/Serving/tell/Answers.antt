use Rattle.std.proofs.Common.{Bool, Some, ap, refl, sym, ◌∙◌}
use Rattle.serving_wires.specs.Sending.{closed_if}
use Rattle.client_serving.proofs.Gathering.{told_closing}
use Rattle.client_serving.proofs.serving.Serving.tell.Goals as goal
use Rattle.client_serving.proofs.serving.Serving.tell.Goals.{then-is_some, else-is_some}

pub returns : goal.returns
returns c =
    rw (← c.self.view_is)
    (told_closing c.cause_of.result c.self.inside.channel
    (record { peer = c.self.inside.peer.now; channel = Some c.self.inside.channel; client = c.self.inside.client; left = c.self.inside.left.now; end = c.self.inside.end }) c.gather.new.client
    c.args.sending.now c.gather.new.sending c.if-is_some.sending refl c.in_ok-gather.ensures.sending c.in_ok-gather.ensures.client c.cause_of.ensures
    (elim c.if-is_some.branch [
      | then-is_some w ↦
          w.sending-is ∙ w.close.ensures ∙ ap (λ (b : Bool). closed_if b c.self.inside.channel c.gather.new.sending) (sym w.if-is_some.true ∙ c.is_some.ensures)
      | else-is_some w ↦
          w.sending-is ∙ ap (λ (b : Bool). closed_if b c.self.inside.channel c.gather.new.sending) (sym w.if-is_some.false ∙ c.is_some.ensures)
    ]))
