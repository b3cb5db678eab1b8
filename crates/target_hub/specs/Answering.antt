-- A command as it is read, answered: one that is known is executed, and any other changes nothing and tells nothing.
use Rattle.std.specs.Prelude.{ℕ, List, [], Option, Some, None}
use Rattle.command_tables.specs.declared.reading.Reading.{Reading}
use Rattle.command_tables.specs.declared.reading.Reading.TheVariants as readings
use Rattle.reply_tables.specs.Rows.{row_named}
use Rattle.reply_tables.specs.Written.{answer_data, refusal_data}
use Rattle.service_names.specs.Commands.{name_in}
use Rattle.service_names.specs.declared.commands.CommandName.{CommandName}
use Rattle.tcf_values.specs.declared.command.Command.{Command}
use Rattle.tcf_values.specs.declared.effect.Effect.{Effect}
use Rattle.target_hub.specs.Execution.{exec_after, exec_effect}
use Rattle.target_hub.specs.declared.done.Answered.{Answered}
use Rattle.target_hub.specs.declared.done.Answered.TheVariants.{Unknown, Result}
use Rattle.target_hub.specs.declared.done.Done.{Done}
use Rattle.run_control.specs.TargetValue.{TargetValue}

-- the answer in its canonical data
abbrev pub written : Command → Effect → Done
written command effect = record {
  progress = effect.progress;
  events = effect.events;
  answer = Result (answer_data command effect.answer);
}

abbrev pub only : Answered → Done
only answer = record { progress = []; events = []; answer = answer }

-- the report of the code, in the row of the command of these names
abbrev pub refusal : Option CommandName → ℕ → Answered
refusal None code = Unknown
refusal (Some command) code = Result (refusal_data (row_named command) code)

abbrev pub executed : ℕ → List ℕ → List ℕ → Reading → TargetValue → Done
executed channel service name (readings.Known command) target = written command (exec_effect channel command target)
executed channel service name readings.Unknown target = only Unknown
executed channel service name (readings.Bad index code) target = only (refusal (name_in service name) code)

abbrev pub after_reading : ℕ → Reading → TargetValue → TargetValue
after_reading channel (readings.Known command) target = exec_after channel command target
after_reading channel readings.Unknown target = target
after_reading channel (readings.Bad index code) target = target
