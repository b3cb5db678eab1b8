-- A command of a channel, executed: what it gives and what it leaves of the target, by its service.
use Rattle.std.specs.Prelude.{ℕ}
use Rattle.tcf_values.specs.Effects.{gives}
use Rattle.tcf_values.specs.declared.command.Command.{Command}
use Rattle.tcf_values.specs.declared.effect.Effect.{Effect}
use Rattle.data_services.specs.Commands.{data_after, data_effect}
use Rattle.run_control.specs.Commands.{run_after, run_effect}
use Rattle.service_names.specs.Commands.{named_as}
use Rattle.service_names.specs.declared.commands.CommandName.{CommandName}
use Rattle.service_names.specs.declared.commands.CommandName.TheVariants as service
use Rattle.target_hub.specs.BreakpointsRows.{breakpoints_after, breakpoints_effect}
use Rattle.target_hub.specs.LocatorRows.{locator_answer}
use Rattle.run_control.specs.TargetValue.{TargetValue}

-- ---- what it gives

abbrev pub effect_in : CommandName → ℕ → Command → TargetValue → Effect
effect_in (service.Locator name) channel command target = gives (locator_answer command)
effect_in (service.RunControl name) channel command target = run_effect command target
effect_in (service.Breakpoints name) channel command target = breakpoints_effect channel command target
effect_in (service.Memory name) channel command target = data_effect command target.contexts
effect_in (service.Registers name) channel command target = data_effect command target.contexts
effect_in (service.Processes name) channel command target = run_effect command target
effect_in (service.Trace name) channel command target = run_effect command target

-- the events, the progress and the answer of a command of a channel
unfoldable pub exec_effect : ℕ → Command → TargetValue → Effect
exec_effect channel command target = effect_in (named_as command) channel command target

-- ---- what it leaves

abbrev pub after_data : Command → TargetValue → TargetValue
after_data command target = record target { contexts = data_after command target.contexts }

abbrev pub after_in : CommandName → ℕ → Command → TargetValue → TargetValue
after_in (service.Locator name) channel command target = target
after_in (service.RunControl name) channel command target = run_after command target
after_in (service.Breakpoints name) channel command target = breakpoints_after channel command target
after_in (service.Memory name) channel command target = after_data command target
after_in (service.Registers name) channel command target = after_data command target
after_in (service.Processes name) channel command target = run_after command target
after_in (service.Trace name) channel command target = run_after command target

-- the target after a command of a channel
unfoldable pub exec_after : ℕ → Command → TargetValue → TargetValue
exec_after channel command target = after_in (named_as command) channel command target
