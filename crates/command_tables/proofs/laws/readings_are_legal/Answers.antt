use Rattle.command_tables.proofs.TheLaws.{known_are_readable, readings_are_legal}
use Rattle.command_tables.proofs.laws.readings_are_legal.Goals as goal

pub returns-clause-legal : goal.returns-clause-legal
returns-clause-legal c = readings_are_legal

pub returns-clause-known : goal.returns-clause-known
returns-clause-known c = known_are_readable
