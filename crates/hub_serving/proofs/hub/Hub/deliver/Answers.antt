use Rattle.hub_serving.proofs.UnderNumbers.{came_holds, came_so}
use Rattle.hub_serving.proofs.hub.Hub.deliver.Goals as goal

pub invariant_of-self : goal.invariant_of-self
invariant_of-self c =
    came_holds c.deliver.result c.args.side c.args.piece.now c.self.inside.node c.deliver.new.self c.deliver.ensures.came c.deliver.ensures.fresh c.deliver.ensures.spent c.self.invariant

pub returns : goal.returns
returns c =
    rw (← c.self.view_is)
    (came_so c.deliver.result c.args.side c.args.piece.now c.self.inside.node c.deliver.new.self c.deliver.ensures.came c.deliver.ensures.fresh c.self.invariant)
