use Rattle.std.proofs.Common.{nat_eq, cond, None, ap, ◌∙◌}
use Rattle.knowledge.specs.Keyed.{of_number}
use Rattle.knowledge.proofs.number_map.NumberMap.take.Goals as goal

pub returns-clause-left : goal.returns-clause-left
returns-clause-left g c = λ n.
    c.remove.ensures.updates.0 n ∙ ap (λ rows. cond (nat_eq c.args.number n) None (of_number n rows)) c.self.view_is
