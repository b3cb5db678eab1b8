-- The arguments of each command, from the left (TCF service pages, in this profile).
use Rattle.std.specs.Prelude.{ℕ, ◌+◌, List, drop, slice_get, Option, Result, Ok, Err}
use Rattle.json_args.specs.declared.fault.ArgFault.{ArgFault}
use Rattle.tcf_values.specs.declared.command.Command.{Command}
use Rattle.tcf_values.specs.declared.command.Command.TheVariants.{Sync, GetPeers, Redirect, GetContext, GetChildren, GetState, Resume, Suspend, Terminate, BpSet, BpAdd, BpChange, BpEnable, BpDisable, BpRemove, BpIds, BpProperties, BpGetStatus, BpCapabilities, MemGet, MemSet, RegGet, RegSet, RegGetm, RegSetm, ProcContext, ProcChildren, ProcStart, ProcAttach, ProcDetach, ProcTerminate, TraceRun}
use Rattle.command_tables.specs.Arguments.{text_part, whole_part, flag_part, texts_part, blob_part, bp_part, props_part, locations_part}
use Rattle.service_names.specs.declared.commands.CommandName.{CommandName}
use Rattle.service_names.specs.declared.commands.CommandName.TheVariants as service
use Rattle.service_names.specs.declared.commands.LocatorCommand.{LocatorCommand}
use Rattle.service_names.specs.declared.commands.LocatorCommand.TheVariants as locator
use Rattle.service_names.specs.declared.commands.RunControlCommand.{RunControlCommand}
use Rattle.service_names.specs.declared.commands.RunControlCommand.TheVariants as run_control
use Rattle.service_names.specs.declared.commands.BreakpointsCommand.{BreakpointsCommand}
use Rattle.service_names.specs.declared.commands.BreakpointsCommand.TheVariants as breakpoints
use Rattle.service_names.specs.declared.commands.MemoryCommand.{MemoryCommand}
use Rattle.service_names.specs.declared.commands.MemoryCommand.TheVariants as memory
use Rattle.service_names.specs.declared.commands.RegistersCommand.{RegistersCommand}
use Rattle.service_names.specs.declared.commands.RegistersCommand.TheVariants as registers
use Rattle.service_names.specs.declared.commands.ProcessesCommand.{ProcessesCommand}
use Rattle.service_names.specs.declared.commands.ProcessesCommand.TheVariants as processes
use Rattle.service_names.specs.declared.commands.TraceCommand.{TraceCommand}
use Rattle.service_names.specs.declared.commands.TraceCommand.TheVariants as trace

-- what reads the parts that are left, the first of which has the index
abbrev pub Row : Type 0
Row = ℕ → List (List ℕ) → Result Command ArgFault

abbrev pub then_read : {A : Type 0} → (A → Result Command ArgFault) → Result A ArgFault → Result Command ArgFault
then_read next (Ok x) = next x
then_read next (Err fault) = Err fault

-- one argument of a kind, which is the first part of those that are left, and then the rest
abbrev pub arg : {A : Type 0} → (ℕ → Option (List ℕ) → Result A ArgFault) → (A → Row) → Row
arg kind next index parts = then_read (λ x. next x (index + 1) (drop 1 parts)) (kind index (slice_get parts 0))

-- the command, when all its arguments are read; further parts are ignored
abbrev pub made : Command → Row
made command index parts = Ok command

abbrev pub locator_row : LocatorCommand → Row
locator_row locator.Sync = made Sync
locator_row locator.GetPeers = made GetPeers
locator_row locator.Redirect = arg text_part (λ peer. made (Redirect peer))

abbrev pub run_control_row : RunControlCommand → Row
run_control_row run_control.GetContext = arg text_part (λ id. made (GetContext id))
run_control_row run_control.GetChildren = arg text_part (λ id. made (GetChildren id))
run_control_row run_control.GetState = arg text_part (λ id. made (GetState id))
run_control_row run_control.Resume = arg text_part (λ id. arg whole_part (λ mode. arg whole_part (λ count. made (Resume id mode count))))
run_control_row run_control.Suspend = arg text_part (λ id. made (Suspend id))
run_control_row run_control.Terminate = arg text_part (λ id. made (Terminate id))

abbrev pub breakpoints_row : BreakpointsCommand → Row
breakpoints_row breakpoints.Set = arg props_part (λ list. made (BpSet list))
breakpoints_row breakpoints.Add = arg bp_part (λ props. made (BpAdd props))
breakpoints_row breakpoints.Change = arg bp_part (λ props. made (BpChange props))
breakpoints_row breakpoints.Enable = arg texts_part (λ ids. made (BpEnable ids))
breakpoints_row breakpoints.Disable = arg texts_part (λ ids. made (BpDisable ids))
breakpoints_row breakpoints.Remove = arg texts_part (λ ids. made (BpRemove ids))
breakpoints_row breakpoints.GetIds = made BpIds
breakpoints_row breakpoints.GetProperties = arg text_part (λ id. made (BpProperties id))
breakpoints_row breakpoints.GetStatus = arg text_part (λ id. made (BpGetStatus id))
breakpoints_row breakpoints.GetCapabilities = arg text_part (λ id. made (BpCapabilities id))

abbrev pub memory_row : MemoryCommand → Row
memory_row memory.Get = arg text_part (λ id. arg whole_part (λ addr. arg whole_part (λ word. arg whole_part (λ size. arg whole_part (λ mode. made (MemGet id addr word size mode))))))
memory_row memory.Set = arg text_part (λ id. arg whole_part (λ addr. arg whole_part (λ word. arg whole_part (λ size. arg whole_part (λ mode. arg blob_part (λ bytes. made (MemSet id addr word size mode bytes)))))))

abbrev pub registers_row : RegistersCommand → Row
registers_row registers.Get = arg text_part (λ id. made (RegGet id))
registers_row registers.Set = arg text_part (λ id. arg blob_part (λ bytes. made (RegSet id bytes)))
registers_row registers.Getm = arg locations_part (λ list. made (RegGetm list))
registers_row registers.Setm = arg locations_part (λ list. arg blob_part (λ bytes. made (RegSetm list bytes)))

abbrev pub processes_row : ProcessesCommand → Row
processes_row processes.GetContext = arg text_part (λ id. made (ProcContext id))
processes_row processes.GetChildren = arg text_part (λ id. arg flag_part (λ attached. made (ProcChildren id attached)))
processes_row processes.Start = arg text_part (λ directory. arg text_part (λ file. arg texts_part (λ args. arg texts_part (λ environment. arg flag_part (λ attach. made (ProcStart directory file args environment attach))))))
processes_row processes.Attach = arg text_part (λ id. made (ProcAttach id))
processes_row processes.Detach = arg text_part (λ id. made (ProcDetach id))
processes_row processes.Terminate = arg text_part (λ id. made (ProcTerminate id))

abbrev pub trace_row : TraceCommand → Row
trace_row trace.Run = arg text_part (λ id. arg whole_part (λ count. made (TraceRun id count)))

abbrev pub row_of : CommandName → Row
row_of (service.Locator command) = locator_row command
row_of (service.RunControl command) = run_control_row command
row_of (service.Breakpoints command) = breakpoints_row command
row_of (service.Memory command) = memory_row command
row_of (service.Registers command) = registers_row command
row_of (service.Processes command) = processes_row command
row_of (service.Trace command) = trace_row command
