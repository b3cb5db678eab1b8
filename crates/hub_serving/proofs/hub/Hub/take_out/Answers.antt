use Rattle.std.proofs.Common.{◌∙◌, sym}
use Rattle.hub_serving.proofs.UnderNumbers.{gave_holds, gave_so, given_so}
use Rattle.hub_serving.proofs.hub.Hub.take_out.Goals as goal

pub invariant_of-self : goal.invariant_of-self
invariant_of-self c = gave_holds c.args.side c.self.inside.node c.take_out.new.self c.take_out.ensures.after c.self.invariant

pub returns-clause-given : goal.returns-clause-given
returns-clause-given c = rw (← c.self.view_is) (c.take_out.ensures.given ∙ sym (given_so c.args.side c.self.inside.node))

pub returns-clause-after : goal.returns-clause-after
returns-clause-after c = rw (← c.self.view_is) (gave_so c.args.side c.self.inside.node c.take_out.new.self c.take_out.ensures.after)
