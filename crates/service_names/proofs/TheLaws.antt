-- The law of names, as a term.
use Rattle.service_names.specs.Commands.{NamesAreExact}
use Rattle.service_names.proofs.EachCommand.{exact_law}

pub names_are_exact : NamesAreExact
names_are_exact = exact_law
