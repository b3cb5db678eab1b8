use Rattle.std.proofs.Common.{[]}
use Rattle.breakpoints.proofs.TheLaws.{gone_owns_nothing}
use Rattle.target_hub.proofs.laws.a_gone_channel_owns_nothing.Goals as goal

pub returns : goal.returns
returns c = λ channel target. gone_owns_nothing channel target.breakpoints [] tt
