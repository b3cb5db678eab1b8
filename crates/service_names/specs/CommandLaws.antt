-- Each command is found by its service and its name.
use Rattle.std.specs.Prelude.{◌≡◌, Some, refl}
use Rattle.service_names.specs.Commands.{name_in, name_of, service_of}
use Rattle.service_names.specs.declared.commands.CommandName.{CommandName}
use Rattle.service_names.specs.declared.commands.CommandName.TheVariants.{Locator, RunControl, Breakpoints, Memory, Registers, Processes, Trace}
use Rattle.service_names.specs.declared.commands.LocatorCommand.TheVariants as locator
use Rattle.service_names.specs.declared.commands.RunControlCommand.TheVariants as run_control
use Rattle.service_names.specs.declared.commands.BreakpointsCommand.TheVariants as breakpoints
use Rattle.service_names.specs.declared.commands.MemoryCommand.TheVariants as memory
use Rattle.service_names.specs.declared.commands.RegistersCommand.TheVariants as registers
use Rattle.service_names.specs.declared.commands.ProcessesCommand.TheVariants as processes
use Rattle.service_names.specs.declared.commands.TraceCommand.TheVariants as trace

pub name_there : (command : CommandName) → name_in (service_of command) (name_of command) ≡ Some command
name_there (Locator locator.Sync) = refl
name_there (Locator locator.GetPeers) = refl
name_there (Locator locator.Redirect) = refl
name_there (RunControl run_control.GetContext) = refl
name_there (RunControl run_control.GetChildren) = refl
name_there (RunControl run_control.GetState) = refl
name_there (RunControl run_control.Resume) = refl
name_there (RunControl run_control.Suspend) = refl
name_there (RunControl run_control.Terminate) = refl
name_there (Breakpoints breakpoints.Set) = refl
name_there (Breakpoints breakpoints.Add) = refl
name_there (Breakpoints breakpoints.Change) = refl
name_there (Breakpoints breakpoints.Enable) = refl
name_there (Breakpoints breakpoints.Disable) = refl
name_there (Breakpoints breakpoints.Remove) = refl
name_there (Breakpoints breakpoints.GetIds) = refl
name_there (Breakpoints breakpoints.GetProperties) = refl
name_there (Breakpoints breakpoints.GetStatus) = refl
name_there (Breakpoints breakpoints.GetCapabilities) = refl
name_there (Memory memory.Get) = refl
name_there (Memory memory.Set) = refl
name_there (Registers registers.Get) = refl
name_there (Registers registers.Set) = refl
name_there (Registers registers.Getm) = refl
name_there (Registers registers.Setm) = refl
name_there (Processes processes.GetContext) = refl
name_there (Processes processes.GetChildren) = refl
name_there (Processes processes.Start) = refl
name_there (Processes processes.Attach) = refl
name_there (Processes processes.Detach) = refl
name_there (Processes processes.Terminate) = refl
name_there (Trace trace.Run) = refl
