-- What stands in the answer to each command (TCF service pages), one row a line. The service Trace is this project's own.
use Rattle.tcf_values.specs.declared.command.Command.{Command}
use Rattle.service_names.specs.Commands.{named_as}
use Rattle.service_names.specs.declared.commands.CommandName.{CommandName}
use Rattle.service_names.specs.declared.commands.CommandName.TheVariants as service
use Rattle.service_names.specs.declared.commands.LocatorCommand.TheVariants as locator
use Rattle.service_names.specs.declared.commands.RunControlCommand.TheVariants as run_control
use Rattle.service_names.specs.declared.commands.BreakpointsCommand.TheVariants as breakpoints
use Rattle.service_names.specs.declared.commands.MemoryCommand.TheVariants as memory
use Rattle.service_names.specs.declared.commands.RegistersCommand.TheVariants as registers
use Rattle.service_names.specs.declared.commands.ProcessesCommand.TheVariants as processes
use Rattle.service_names.specs.declared.commands.TraceCommand.TheVariants as trace
use Rattle.reply_tables.specs.declared.rows.Kind.{Kind}
use Rattle.reply_tables.specs.declared.rows.Row.{Row}
use Rattle.reply_tables.specs.declared.rows.Row.TheVariants.{NoData, ErrorAlone, ErrorNull, ErrorThen, ErrorState, BlobErrorNull}

-- the row of a command by its name
abbrev pub row_named : CommandName → Row
row_named (service.Locator locator.Sync) = NoData
row_named (service.Locator locator.GetPeers) = ErrorThen Kind.Peers
row_named (service.Locator locator.Redirect) = ErrorAlone
row_named (service.RunControl run_control.GetContext) = ErrorThen Kind.Context
row_named (service.RunControl run_control.GetChildren) = ErrorThen Kind.Ids
row_named (service.RunControl run_control.GetState) = ErrorState
row_named (service.RunControl run_control.Resume) = ErrorAlone
row_named (service.RunControl run_control.Suspend) = ErrorAlone
row_named (service.RunControl run_control.Terminate) = ErrorAlone
row_named (service.Breakpoints breakpoints.Set) = ErrorAlone
row_named (service.Breakpoints breakpoints.Add) = ErrorAlone
row_named (service.Breakpoints breakpoints.Change) = ErrorAlone
row_named (service.Breakpoints breakpoints.Enable) = ErrorAlone
row_named (service.Breakpoints breakpoints.Disable) = ErrorAlone
row_named (service.Breakpoints breakpoints.Remove) = ErrorAlone
row_named (service.Breakpoints breakpoints.GetIds) = ErrorThen Kind.Ids
row_named (service.Breakpoints breakpoints.GetProperties) = ErrorThen Kind.Bp
row_named (service.Breakpoints breakpoints.GetStatus) = ErrorThen Kind.Status
row_named (service.Breakpoints breakpoints.GetCapabilities) = ErrorThen Kind.Capabilities
row_named (service.Memory memory.Get) = BlobErrorNull
row_named (service.Memory memory.Set) = ErrorNull
row_named (service.Registers registers.Get) = ErrorThen Kind.Blob
row_named (service.Registers registers.Set) = ErrorAlone
row_named (service.Registers registers.Getm) = ErrorThen Kind.Blob
row_named (service.Registers registers.Setm) = ErrorAlone
row_named (service.Processes processes.GetContext) = ErrorThen Kind.Process
row_named (service.Processes processes.GetChildren) = ErrorThen Kind.Ids
row_named (service.Processes processes.Start) = ErrorThen Kind.Process
row_named (service.Processes processes.Attach) = ErrorAlone
row_named (service.Processes processes.Detach) = ErrorAlone
row_named (service.Processes processes.Terminate) = ErrorAlone
row_named (service.Trace trace.Run) = ErrorThen Kind.Count

-- the row of a command
abbrev pub row_of : Command → Row
row_of command = row_named (named_as command)
