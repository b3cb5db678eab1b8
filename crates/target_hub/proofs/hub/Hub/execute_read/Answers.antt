use Rattle.std.proofs.Common.{subst}
use Rattle.command_tables.specs.Reading.{IsReading}
use Rattle.command_tables.proofs.TheLaws.{known_are_readable}
use Rattle.target_hub.proofs.hub.Hub.execute_read.Goals as goal

pub execute_known-requires-clause-command : goal.execute_known-requires-clause-command
execute_known-requires-clause-command c =
    (known_are_readable c.args.service.now c.args.name.now c.in-Known.command (subst (IsReading c.args.service.now c.args.name.now) c.in-Known.is c.requires.reading)).1
