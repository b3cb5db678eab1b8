use Rattle.value_node.proofs.Pending.{counted_is_barred}
use Rattle.value_node.proofs.upper.Upper.is_barred.Goals as goal

pub returns : goal.returns
returns c = counted_is_barred c.self.inside.barriers c.self.inside.end c.args.self.now c.self.view_is c.requires.usable c.self.invariant
