use Rattle.std.proofs.Common.{nat_eq, cond, None, ap, ◌∙◌}
use Rattle.knowledge.specs.Keyed.{of_thread}
use Rattle.knowledge.proofs.Keys.{process_gone}
use Rattle.knowledge.proofs.thread_map.ThreadMap.drop_process.Goals as goal

pub returns : goal.returns
returns g c = λ p t.
    process_gone c.args.process c.self.inside.processes.entries c.remove.new.self.entries c.remove.ensures.updates.0 p t
    ∙ ap (λ rows. cond (nat_eq c.args.process p) None (of_thread p t rows)) c.self.view_is
