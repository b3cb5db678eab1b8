use Rattle.std.proofs.Common.{Some, ap, sym, ◌∙◌}
use Rattle.knowledge.specs.Keyed.{of_number}
use Rattle.knowledge.proofs.thread_map.ThreadMap.is_empty_at.Goals as goal

pub returns-in-Some : goal.returns-in-Some
returns-in-Some g c = λ empty.
    sym (c.in-Some.ensures.value ∙ ap (of_number c.args.process) c.self.view_is) ∙ ap (λ rows. Some rows) (c.is_empty.ensures empty)
