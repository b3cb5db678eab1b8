use Rattle.breakpoints.proofs.TheLaws.{gone_owns_nothing}
use Rattle.breakpoints.proofs.laws.a_gone_channel_owns_nothing.Goals as goal

pub returns : goal.returns
returns c = gone_owns_nothing
