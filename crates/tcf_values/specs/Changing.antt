-- Which commands are changing: those that can change a target, a breakpoint or a channel where they are executed.
use Rattle.std.specs.Prelude.{Bool, true, false}
use Rattle.tcf_values.specs.declared.command.Command.{Command}
use Rattle.tcf_values.specs.declared.command.Command.TheVariants.{Sync, GetPeers, Redirect, GetContext, GetChildren, GetState, Resume, Suspend, Terminate, BpSet, BpAdd, BpChange, BpEnable, BpDisable, BpRemove, BpIds, BpProperties, BpGetStatus, BpCapabilities, MemGet, MemSet, RegGet, RegSet, RegGetm, RegSetm, ProcContext, ProcChildren, ProcStart, ProcAttach, ProcDetach, ProcTerminate, TraceRun}

abbrev pub changes : Command → Bool
-- Locator
changes Sync = false
changes GetPeers = false
changes (Redirect peer) = true
-- RunControl
changes (GetContext id) = false
changes (GetChildren id) = false
changes (GetState id) = false
changes (Resume id mode count) = true
changes (Suspend id) = true
changes (Terminate id) = true
-- Breakpoints
changes (BpSet list) = true
changes (BpAdd props) = true
changes (BpChange props) = true
changes (BpEnable ids) = true
changes (BpDisable ids) = true
changes (BpRemove ids) = true
changes BpIds = false
changes (BpProperties id) = false
changes (BpGetStatus id) = false
changes (BpCapabilities id) = false
-- Memory
changes (MemGet id addr word size mode) = false
changes (MemSet id addr word size mode bytes) = true
-- Registers
changes (RegGet id) = false
changes (RegSet id bytes) = true
changes (RegGetm list) = false
changes (RegSetm list bytes) = true
-- Processes
changes (ProcContext id) = false
changes (ProcChildren id attached) = false
changes (ProcStart directory file args environment attach) = true
changes (ProcAttach id) = true
changes (ProcDetach id) = true
changes (ProcTerminate id) = true
-- Trace
changes (TraceRun id count) = true
