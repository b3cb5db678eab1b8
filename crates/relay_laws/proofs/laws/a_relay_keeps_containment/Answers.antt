use Rattle.relay_laws.proofs.TheLaws.{keeps_containment}
use Rattle.relay_laws.proofs.laws.a_relay_keeps_containment.Goals as goal

pub returns : goal.returns
returns c = keeps_containment
