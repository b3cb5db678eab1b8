-- Which commands are storable: those that a value-add may answer itself, from what it has learned.
use Rattle.std.specs.Prelude.{Bool, true, false}
use Rattle.tcf_values.specs.declared.command.Command.{Command}
use Rattle.tcf_values.specs.declared.command.Command.TheVariants.{Sync, GetPeers, Redirect, GetContext, GetChildren, GetState, Resume, Suspend, Terminate, BpSet, BpAdd, BpChange, BpEnable, BpDisable, BpRemove, BpIds, BpProperties, BpGetStatus, BpCapabilities, MemGet, MemSet, RegGet, RegSet, RegGetm, RegSetm, ProcContext, ProcChildren, ProcStart, ProcAttach, ProcDetach, ProcTerminate, TraceRun}

abbrev pub stores : Command → Bool
-- Locator
stores Sync = false
stores GetPeers = false
stores (Redirect peer) = false
-- RunControl
stores (GetContext id) = true
stores (GetChildren id) = false
stores (GetState id) = true
stores (Resume id mode count) = false
stores (Suspend id) = false
stores (Terminate id) = false
-- Breakpoints
stores (BpSet list) = false
stores (BpAdd props) = false
stores (BpChange props) = false
stores (BpEnable ids) = false
stores (BpDisable ids) = false
stores (BpRemove ids) = false
stores BpIds = false
stores (BpProperties id) = true
stores (BpGetStatus id) = true
stores (BpCapabilities id) = false
-- Memory
stores (MemGet id addr word size mode) = true
stores (MemSet id addr word size mode bytes) = false
-- Registers
stores (RegGet id) = true
stores (RegSet id bytes) = false
stores (RegGetm list) = true
stores (RegSetm list bytes) = false
-- Processes
stores (ProcContext id) = false
stores (ProcChildren id attached) = false
stores (ProcStart directory file args environment attach) = false
stores (ProcAttach id) = false
stores (ProcDetach id) = false
stores (ProcTerminate id) = false
-- Trace
stores (TraceRun id count) = false
