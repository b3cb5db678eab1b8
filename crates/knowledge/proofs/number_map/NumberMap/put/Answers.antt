use Rattle.std.proofs.Common.{nat_eq, cond, Some, ap, ◌∙◌}
use Rattle.knowledge.specs.Keyed.{of_number}
use Rattle.knowledge.proofs.number_map.NumberMap.put.Goals as goal

pub returns : goal.returns
returns g c = λ n.
    c.in_ok-insert.ensures.updates.0 n ∙ ap (λ rows. cond (nat_eq c.args.number n) (Some c.args.value) (of_number n rows)) c.self.view_is
