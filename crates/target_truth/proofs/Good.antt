-- The target of a legal history is good.
use Rattle.std.proofs.Common.{◌≡◌, ℕ, List, [], ◌∷◌, Some}
use Rattle.std.specs.List.{AllByRecursion}
use Rattle.command_tables.specs.Canonical.{IsReadable}
use Rattle.command_tables.specs.declared.reading.Reading.TheVariants.{Known, Unknown, Bad}
use Rattle.service_names.specs.Commands.{named_as}
use Rattle.service_names.specs.declared.commands.CommandName.{CommandName}
use Rattle.service_names.specs.declared.commands.CommandName.TheVariants as service
use Rattle.target_contexts.specs.Whole.{IsWhole}
use Rattle.target_contexts.specs.declared.process.Image.{Image}
use Rattle.target_contexts.specs.ProcessValue.{ProcessValue}
use Rattle.target_hub.specs.Execution.{after_in, exec_after}
use Rattle.target_hub.specs.History.{IsLegal, input_after, inputs_after}
use Rattle.target_hub.specs.HubValue.{new_target}
use Rattle.target_hub.specs.Passing.{ticked}
use Rattle.target_hub.specs.declared.input.Input.{Input}
use Rattle.target_hub.specs.declared.input.Input.TheVariants.{Opened, Executed, Ticked, Closed}
use Rattle.run_control.specs.TargetValue.{TargetValue}
use Rattle.target_truth.specs.Holds.{process_in}
use Rattle.target_truth.specs.Typed.{AreTyped}
use Rattle.target_contexts.proofs.TheLaws.{found_is_short}
use Rattle.target_hub.proofs.TheLaws.{stays_bounded, stays_consistent}
use Rattle.target_truth.proofs.Fronts.{IsReadInput, inputs_read}
use Rattle.target_truth.proofs.Fit.{IsFit, found_whole, orderly_whole}
use Rattle.target_truth.proofs.FitData.{data_fit}
use Rattle.target_truth.proofs.FitRun.{run_fit, tick_fit}
use Rattle.target_truth.proofs.Whole.{IsGood}
use Rattle.tcf_values.specs.declared.command.Command.{Command}
use Rattle.tcf_values.specs.declared.ids.ContextId.{ContextId}

-- ---- one input

good_fit : (target : TargetValue) → IsGood target → IsFit target.contexts
good_fit target good = record { images = good.images; processes = orderly_whole target.contexts.processes target.contexts.next good.consistent.processes good.whole }

fit_in : (name : CommandName) (channel : ℕ) (command : Command) (target : TargetValue) → IsFit target.contexts → IsReadable command → IsFit (after_in name channel command target).contexts
fit_in (service.Locator name) channel command target fit readable = fit
fit_in (service.RunControl name) channel command target fit readable = run_fit command target fit
fit_in (service.Breakpoints name) channel command target fit readable = fit
fit_in (service.Memory name) channel command target fit readable = data_fit command target.contexts fit readable
fit_in (service.Registers name) channel command target fit readable = data_fit command target.contexts fit readable
fit_in (service.Processes name) channel command target fit readable = run_fit command target fit
fit_in (service.Trace name) channel command target fit readable = run_fit command target fit

exec_fit : (channel : ℕ) (command : Command) (target : TargetValue) → IsFit target.contexts → IsReadable command → IsFit (exec_after channel command target).contexts
unfolding exec_after
exec_fit channel command target fit readable = fit_in (named_as command) channel command target fit readable

-- a start, a command of Memory or Registers, and a trace
pub command_whole : (channel : ℕ) (command : Command) (target : TargetValue) → IsGood target → IsReadable command
    → (number : ℕ) (process : ProcessValue) → process_in number (exec_after channel command target) ≡ Some process → IsWhole process
command_whole channel command target good readable number process is =
    found_whole number (exec_after channel command target).contexts.processes process (exec_fit channel command target (good_fit target good) readable).processes is

pub tick_whole : (thread : ContextId) (target : TargetValue) → IsGood target
    → (number : ℕ) (process : ProcessValue) → process_in number (ticked thread target) ≡ Some process → IsWhole process
tick_whole thread target good number process is =
    found_whole number (ticked thread target).contexts.processes process (tick_fit thread target (good_fit target good)).processes is

input_fit : (input : Input) (target : TargetValue) → IsFit target.contexts → IsReadInput input → IsFit (input_after input target).contexts
input_fit (Opened channel) target fit read = fit
input_fit (Executed channel (Known command) service name) target fit read = exec_fit channel command target fit read
input_fit (Executed channel Unknown service name) target fit read = fit
input_fit (Executed channel (Bad index code) service name) target fit read = fit
input_fit (Ticked thread) target fit read = tick_fit thread target fit
input_fit (Closed channel) target fit read = fit

-- ---- all inputs

inputs_fit : (inputs : List Input) (target : TargetValue) → IsFit target.contexts → AllByRecursion IsReadInput inputs → IsFit (inputs_after inputs target).contexts
inputs_fit [] target fit read = fit
inputs_fit (input ∷ inputs) target fit read = inputs_fit inputs (input_after input target) (input_fit input target fit read.0) read.1

pub history_good : (images : List Image) (history : List Input) → IsLegal images history → AreTyped images
    → IsGood (inputs_after history (new_target images))
history_good images history legal typed =
    let target = inputs_after history (new_target images) in
    let fit : IsFit target.contexts = inputs_fit history (new_target images) (record { images = typed; processes = tt }) (inputs_read images history legal) in
    record {
      consistent = stays_consistent images history legal;
      images = fit.images;
      whole = λ number process is. found_whole number target.contexts.processes process fit.processes is;
      few = λ number process is. (found_is_short target.contexts.processes number process (stays_bounded images history legal).processes is).count;
    }
