use Rattle.std.proofs.Common.{subst}
use Rattle.command_tables.specs.Reading.{IsReading}
use Rattle.command_tables.proofs.TheLaws.{known_are_readable}
use Rattle.service_rows.proofs.tables.put_command.Goals as goal

pub put_written-requires : goal.put_written-requires
put_written-requires c =
    let service = c.before.before.args.named.now.service.items in
    let name = c.before.before.args.named.now.name.items in
    (known_are_readable service name c.in-Known.command (subst (IsReading service name) c.in-Known.is c.before.before.requires)).1
