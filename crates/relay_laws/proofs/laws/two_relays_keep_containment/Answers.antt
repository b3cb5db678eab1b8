use Rattle.relay_laws.proofs.TheLaws.{two_keep_containment}
use Rattle.relay_laws.proofs.laws.two_relays_keep_containment.Goals as goal

pub returns : goal.returns
returns c = two_keep_containment
