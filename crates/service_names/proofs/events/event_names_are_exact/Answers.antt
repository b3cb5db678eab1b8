use Rattle.service_names.proofs.EachEvent.{exact_law}
use Rattle.service_names.proofs.events.event_names_are_exact.Goals as goal

pub returns : goal.returns
returns c = exact_law
