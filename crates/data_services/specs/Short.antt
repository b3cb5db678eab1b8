-- The law that names, reasons and hits stay short: no command of Memory or Registers touches them.
use Rattle.data_services.specs.Commands.{data_after}
use Rattle.target_contexts.specs.Short.{AllShort}
use Rattle.target_contexts.specs.TargetsValue.{TargetsValue}
use Rattle.tcf_values.specs.declared.command.Command.{Command}

abbrev pub ShortStays : Type 0
ShortStays = (command : Command) (targets : TargetsValue) → AllShort targets.processes → AllShort (data_after command targets).processes
