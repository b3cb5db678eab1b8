-- The laws that names, reasons and hits stay short: the hits of a thread are IDs of breakpoints.
use Rattle.breakpoints.specs.Rows.{ids_of}
use Rattle.run_control.specs.Commands.{run_after}
use Rattle.run_control.specs.TargetValue.{TargetValue}
use Rattle.run_control.specs.Ticking.{tick_after}
use Rattle.target_contexts.specs.Short.{AllShort, AreShort}
use Rattle.tcf_values.specs.declared.command.Command.{Command}
use Rattle.tcf_values.specs.declared.ids.ContextId.{ContextId}

abbrev pub CommandsKeepShort : Type 0
CommandsKeepShort = (command : Command) (target : TargetValue) → AreShort (ids_of target.breakpoints) →
    AllShort target.contexts.processes → AllShort (run_after command target).contexts.processes

abbrev pub TicksKeepShort : Type 0
TicksKeepShort = (thread : ContextId) (target : TargetValue) → AreShort (ids_of target.breakpoints) →
    AllShort target.contexts.processes → AllShort (tick_after thread target).contexts.processes
