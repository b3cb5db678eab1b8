use Rattle.knowledge.proofs.Steps.{then_after}
use Rattle.knowledge.proofs.knowledge.Knowledge.contexts_added.Goals as goal

pub returns : goal.returns
returns c =
    then_after c.in_ok-add_contexts.ensures
    (then_after c.unsettle_contexts.ensures (then_after c.in_ok-begin_lists.ensures (then_after c.in_ok-join_contexts.ensures c.drop_statuses.ensures)))
