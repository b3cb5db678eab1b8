use Rattle.command_tables.proofs.Places.{at_its_index}
use Rattle.command_tables.proofs.rows.arguments_are_in_place.Goals as goal

pub returns : goal.returns
returns c d = at_its_index
