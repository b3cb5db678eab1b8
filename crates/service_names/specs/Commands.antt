-- The names of the services' commands (TCF service pages; Trace is this project's own service).
use Rattle.std.specs.Prelude.{ℕ, ◌≡◌, ◌↔◌, List, [], ◌∷◌, Option, None, Some, option_map, if◌then◌else◌, codes, bytes_eq}
use Rattle.std.specs.Option.{option_or}
use Rattle.tcf_values.specs.declared.command.Command.{Command}
use Rattle.tcf_values.specs.declared.command.Command.TheVariants.{Sync, GetPeers, Redirect, GetContext, GetChildren, GetState, Resume, Suspend, Terminate, BpSet, BpAdd, BpChange, BpEnable, BpDisable, BpRemove, BpIds, BpProperties, BpGetStatus, BpCapabilities, MemGet, MemSet, RegGet, RegSet, RegGetm, RegSetm, ProcContext, ProcChildren, ProcStart, ProcAttach, ProcDetach, ProcTerminate, TraceRun}
use Rattle.service_names.specs.Named.{named}
use Rattle.service_names.specs.declared.commands.CommandName.{CommandName}
use Rattle.service_names.specs.declared.commands.CommandName.TheVariants.{Locator, RunControl, Breakpoints, Memory, Registers, Processes, Trace}
use Rattle.service_names.specs.declared.commands.LocatorCommand.{LocatorCommand}
use Rattle.service_names.specs.declared.commands.LocatorCommand.TheVariants as locator
use Rattle.service_names.specs.declared.commands.RunControlCommand.{RunControlCommand}
use Rattle.service_names.specs.declared.commands.RunControlCommand.TheVariants as run_control
use Rattle.service_names.specs.declared.commands.BreakpointsCommand.{BreakpointsCommand}
use Rattle.service_names.specs.declared.commands.BreakpointsCommand.TheVariants as breakpoints
use Rattle.service_names.specs.declared.commands.MemoryCommand.{MemoryCommand}
use Rattle.service_names.specs.declared.commands.MemoryCommand.TheVariants as memory
use Rattle.service_names.specs.declared.commands.RegistersCommand.{RegistersCommand}
use Rattle.service_names.specs.declared.commands.RegistersCommand.TheVariants as registers
use Rattle.service_names.specs.declared.commands.ProcessesCommand.{ProcessesCommand}
use Rattle.service_names.specs.declared.commands.ProcessesCommand.TheVariants as processes
use Rattle.service_names.specs.declared.commands.TraceCommand.{TraceCommand}
use Rattle.service_names.specs.declared.commands.TraceCommand.TheVariants as trace

abbrev pub locator_name : LocatorCommand → List ℕ
locator_name locator.Sync = codes "sync"
locator_name locator.GetPeers = codes "getPeers"
locator_name locator.Redirect = codes "redirect"

abbrev pub locator_commands : List LocatorCommand
locator_commands = locator.Sync ∷ locator.GetPeers ∷ locator.Redirect ∷ []

abbrev pub locator_in : List ℕ → Option LocatorCommand
locator_in name = named locator_name locator_commands name

abbrev pub run_control_name : RunControlCommand → List ℕ
run_control_name run_control.GetContext = codes "getContext"
run_control_name run_control.GetChildren = codes "getChildren"
run_control_name run_control.GetState = codes "getState"
run_control_name run_control.Resume = codes "resume"
run_control_name run_control.Suspend = codes "suspend"
run_control_name run_control.Terminate = codes "terminate"

abbrev pub run_control_commands : List RunControlCommand
run_control_commands = run_control.GetContext ∷ run_control.GetChildren ∷ run_control.GetState ∷ run_control.Resume ∷ run_control.Suspend ∷ run_control.Terminate ∷ []

abbrev pub run_control_in : List ℕ → Option RunControlCommand
run_control_in name = named run_control_name run_control_commands name

abbrev pub breakpoints_name : BreakpointsCommand → List ℕ
breakpoints_name breakpoints.Set = codes "set"
breakpoints_name breakpoints.Add = codes "add"
breakpoints_name breakpoints.Change = codes "change"
breakpoints_name breakpoints.Enable = codes "enable"
breakpoints_name breakpoints.Disable = codes "disable"
breakpoints_name breakpoints.Remove = codes "remove"
breakpoints_name breakpoints.GetIds = codes "getIDs"
breakpoints_name breakpoints.GetProperties = codes "getProperties"
breakpoints_name breakpoints.GetStatus = codes "getStatus"
breakpoints_name breakpoints.GetCapabilities = codes "getCapabilities"

-- the commands that change the list
abbrev pub breakpoints_changing : List BreakpointsCommand
breakpoints_changing = breakpoints.Set ∷ breakpoints.Add ∷ breakpoints.Change ∷ breakpoints.Enable ∷ breakpoints.Disable ∷ breakpoints.Remove ∷ []

-- those that ask
abbrev pub breakpoints_asking : List BreakpointsCommand
breakpoints_asking = breakpoints.GetIds ∷ breakpoints.GetProperties ∷ breakpoints.GetStatus ∷ breakpoints.GetCapabilities ∷ []

abbrev pub breakpoints_in : List ℕ → Option BreakpointsCommand
breakpoints_in name = option_or (named breakpoints_name breakpoints_changing name) (named breakpoints_name breakpoints_asking name)

abbrev pub memory_name : MemoryCommand → List ℕ
memory_name memory.Get = codes "get"
memory_name memory.Set = codes "set"

abbrev pub memory_commands : List MemoryCommand
memory_commands = memory.Get ∷ memory.Set ∷ []

abbrev pub memory_in : List ℕ → Option MemoryCommand
memory_in name = named memory_name memory_commands name

abbrev pub registers_name : RegistersCommand → List ℕ
registers_name registers.Get = codes "get"
registers_name registers.Set = codes "set"
registers_name registers.Getm = codes "getm"
registers_name registers.Setm = codes "setm"

abbrev pub registers_commands : List RegistersCommand
registers_commands = registers.Get ∷ registers.Set ∷ registers.Getm ∷ registers.Setm ∷ []

abbrev pub registers_in : List ℕ → Option RegistersCommand
registers_in name = named registers_name registers_commands name

abbrev pub processes_name : ProcessesCommand → List ℕ
processes_name processes.GetContext = codes "getContext"
processes_name processes.GetChildren = codes "getChildren"
processes_name processes.Start = codes "start"
processes_name processes.Attach = codes "attach"
processes_name processes.Detach = codes "detach"
processes_name processes.Terminate = codes "terminate"

abbrev pub processes_commands : List ProcessesCommand
processes_commands = processes.GetContext ∷ processes.GetChildren ∷ processes.Start ∷ processes.Attach ∷ processes.Detach ∷ processes.Terminate ∷ []

abbrev pub processes_in : List ℕ → Option ProcessesCommand
processes_in name = named processes_name processes_commands name

abbrev pub trace_name : TraceCommand → List ℕ
trace_name trace.Run = codes "run"

abbrev pub trace_commands : List TraceCommand
trace_commands = trace.Run ∷ []

abbrev pub trace_in : List ℕ → Option TraceCommand
trace_in name = named trace_name trace_commands name

-- the service of a command
abbrev pub service_of : CommandName → List ℕ
service_of (Locator command) = codes "Locator"
service_of (RunControl command) = codes "RunControl"
service_of (Breakpoints command) = codes "Breakpoints"
service_of (Memory command) = codes "Memory"
service_of (Registers command) = codes "Registers"
service_of (Processes command) = codes "Processes"
service_of (Trace command) = codes "Trace"

-- its name in the service
abbrev pub name_of : CommandName → List ℕ
name_of (Locator command) = locator_name command
name_of (RunControl command) = run_control_name command
name_of (Breakpoints command) = breakpoints_name command
name_of (Memory command) = memory_name command
name_of (Registers command) = registers_name command
name_of (Processes command) = processes_name command
name_of (Trace command) = trace_name command

-- the command of this service and name
abbrev pub name_in : List ℕ → List ℕ → Option CommandName
name_in service name =
    if bytes_eq service (codes "Locator") then option_map Locator (locator_in name)
    else if bytes_eq service (codes "RunControl") then option_map RunControl (run_control_in name)
    else if bytes_eq service (codes "Breakpoints") then option_map Breakpoints (breakpoints_in name)
    else if bytes_eq service (codes "Memory") then option_map Memory (memory_in name)
    else if bytes_eq service (codes "Registers") then option_map Registers (registers_in name)
    else if bytes_eq service (codes "Processes") then option_map Processes (processes_in name)
    else if bytes_eq service (codes "Trace") then option_map Trace (trace_in name)
    else None

-- the name of a command
abbrev pub named_as : Command → CommandName
named_as Sync = Locator locator.Sync
named_as GetPeers = Locator locator.GetPeers
named_as (Redirect peer) = Locator locator.Redirect
named_as (GetContext id) = RunControl run_control.GetContext
named_as (GetChildren id) = RunControl run_control.GetChildren
named_as (GetState id) = RunControl run_control.GetState
named_as (Resume id mode count) = RunControl run_control.Resume
named_as (Suspend id) = RunControl run_control.Suspend
named_as (Terminate id) = RunControl run_control.Terminate
named_as (BpSet list) = Breakpoints breakpoints.Set
named_as (BpAdd props) = Breakpoints breakpoints.Add
named_as (BpChange props) = Breakpoints breakpoints.Change
named_as (BpEnable ids) = Breakpoints breakpoints.Enable
named_as (BpDisable ids) = Breakpoints breakpoints.Disable
named_as (BpRemove ids) = Breakpoints breakpoints.Remove
named_as BpIds = Breakpoints breakpoints.GetIds
named_as (BpProperties id) = Breakpoints breakpoints.GetProperties
named_as (BpGetStatus id) = Breakpoints breakpoints.GetStatus
named_as (BpCapabilities id) = Breakpoints breakpoints.GetCapabilities
named_as (MemGet id addr word size mode) = Memory memory.Get
named_as (MemSet id addr word size mode bytes) = Memory memory.Set
named_as (RegGet id) = Registers registers.Get
named_as (RegSet id bytes) = Registers registers.Set
named_as (RegGetm list) = Registers registers.Getm
named_as (RegSetm list bytes) = Registers registers.Setm
named_as (ProcContext id) = Processes processes.GetContext
named_as (ProcChildren id attached) = Processes processes.GetChildren
named_as (ProcStart directory file args environment attach) = Processes processes.Start
named_as (ProcAttach id) = Processes processes.Attach
named_as (ProcDetach id) = Processes processes.Detach
named_as (ProcTerminate id) = Processes processes.Terminate
named_as (TraceRun id count) = Trace trace.Run

-- the law: each command has one service and one name, and no other command has both
abbrev pub NamesAreExact : Type 0
NamesAreExact = (service name : List ℕ) (command : CommandName)
    → (name_in service name ≡ Some command) ↔ ((service ≡ service_of command) × (name ≡ name_of command))
