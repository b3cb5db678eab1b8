use Rattle.service_names.proofs.TheLaws.{names_are_exact}
use Rattle.service_names.proofs.commands.names_are_exact.Goals as goal

pub returns : goal.returns
returns c = names_are_exact
