use Rattle.hub_serving.proofs.UnderNumbers.{turn_holds, turn_is}
use Rattle.hub_serving.proofs.hub.Hub.turn.Goals as goal

pub invariant_of-self : goal.invariant_of-self
invariant_of-self c = turn_holds c.turn.result c.args.side c.self.inside.node c.turn.new.self c.turn.ensures.turned c.turn.ensures.fresh c.turn.ensures.spent c.self.invariant

pub returns : goal.returns
returns c = rw (← c.self.view_is) (turn_is c.turn.result c.args.side c.self.inside.node c.turn.new.self c.turn.ensures.turned c.turn.ensures.fresh c.self.invariant)
