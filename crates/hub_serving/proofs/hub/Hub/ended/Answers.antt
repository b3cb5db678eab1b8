use Rattle.hub_serving.proofs.UnderNumbers.{ended_holds, ended_so}
use Rattle.hub_serving.proofs.hub.Hub.ended.Goals as goal

pub invariant_of-self : goal.invariant_of-self
invariant_of-self c = ended_holds c.args.side c.self.inside.node c.ended.new.self c.ended.ensures c.self.invariant

pub returns : goal.returns
returns c = rw (← c.self.view_is) (ended_so c.args.side c.self.inside.node c.ended.new.self c.ended.ensures c.self.invariant)
