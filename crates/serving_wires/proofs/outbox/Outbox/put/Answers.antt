use Rattle.std.proofs.Common.{ℕ, ◌==◌, List, length, ap, ◌∙◌}
use Rattle.serving_wires.proofs.Putting.{put_lost, put_taken}
use Rattle.serving_wires.proofs.outbox.Outbox.put.Goals as goal

pub returns-in-Took-clause-ok : goal.returns-in-Took-clause-ok
returns-in-Took-clause-ok g c =
    put_taken _ _ c.is_empty.result _ _ c.in-Took.count _ _ (c.is_empty.ensures ∙ ap (λ (xs : List ℕ). length xs == 0) c.left.ensures) c.if-is_empty.false c.channel.ensures c.left-2.ensures c.in-Took.ensures.count
    c.forget.ensures c.in-Took.ensures.seen

pub returns-in-Lost-clause-ok : goal.returns-in-Lost-clause-ok
returns-in-Lost-clause-ok g c =
    put_lost _ _ c.is_empty.result _ _ _ _ (c.is_empty.ensures ∙ ap (λ (xs : List ℕ). length xs == 0) c.left.ensures) c.if-is_empty.false c.channel.ensures c.left-2.ensures
    c.lose.ensures c.in-Lost.ensures.seen
