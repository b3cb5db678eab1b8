use Rattle.hub_serving.proofs.UnderNumbers.{opened_holds, opened_so}
use Rattle.hub_serving.proofs.hub.Hub.opened.Goals as goal

pub invariant_of-self : goal.invariant_of-self
invariant_of-self c = opened_holds c.opened.result c.args.channel c.self.inside.node c.opened.new.self c.opened.ensures.opened c.opened.ensures.fresh c.opened.ensures.spent c.self.invariant

pub returns : goal.returns
returns c = rw (← c.self.view_is) (opened_so c.opened.result c.args.channel c.self.inside.node c.opened.new.self c.opened.ensures.opened)
