use Rattle.knowledge.proofs.Steps.{then_after}
use Rattle.knowledge.proofs.knowledge.Knowledge.contexts_changed.Goals as goal

pub returns : goal.returns
returns c = then_after c.in_ok-change_contexts.ensures c.drop_statuses.ensures
