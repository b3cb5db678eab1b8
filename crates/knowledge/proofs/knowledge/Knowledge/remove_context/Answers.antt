use Rattle.knowledge.proofs.Steps.{then_after}
use Rattle.knowledge.proofs.knowledge.Knowledge.remove_context.Goals as goal

pub returns : goal.returns
returns c = then_after c.drop_context.ensures (then_after c.go_stale.ensures c.drop_list.ensures)
