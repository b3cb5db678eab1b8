-- A redirect is answered with an error.
use Rattle.std.proofs.Common.{◌≡◌, ℕ, true, false, List, Some, refl, sym, ◌∙◌, subst}
use Rattle.std.specs.Prelude.{bytes_eq, Option}
use Rattle.std.proofs.lemmas.Slice.Eq.{bytes_eq-Decides}
use Rattle.std.proofs.lemmas.Bool.{and_parts}
use Rattle.channel_core.specs.Wire.{is_done, is_redirect, locator, redirect_name}
use Rattle.command_tables.specs.Reading.{IsReading}
use Rattle.command_tables.specs.declared.reading.Reading.{Reading}
use Rattle.command_tables.specs.declared.reading.Reading.TheVariants as readings
use Rattle.reply_tables.specs.Rows.{row_named}
use Rattle.reply_tables.specs.Written.{answer_data, refusal_data}
use Rattle.service_names.specs.Commands.{name_in, named_as}
use Rattle.service_names.specs.declared.commands.CommandName.{CommandName}
use Rattle.service_names.specs.declared.commands.CommandName.TheVariants as service
use Rattle.service_names.specs.declared.commands.LocatorCommand.TheVariants as commands
use Rattle.tcf_values.specs.declared.command.Command.{Command}
use Rattle.tcf_values.specs.declared.command.Command.TheVariants.{Redirect}
use Rattle.target_hub.specs.Answering.{executed, refusal}
use Rattle.target_hub.specs.Execution.{exec_effect}
use Rattle.target_hub.specs.declared.done.Answered.{Answered}
use Rattle.target_hub.specs.declared.done.Answered.TheVariants.{Result, Unknown}
use Rattle.target_hub.specs.HubValue.{TargetValue}
use Rattle.command_tables.proofs.TheLaws.{known_are_readable}
use Rattle.service_names.proofs.TheLaws.{names_are_exact}

-- an answer with data has an error
abbrev pub Refuses : Answered → Type 0
Refuses Unknown = Unit {0}
Refuses (Result body) = is_done body ≡ false

-- a report of an error begins with a brace
refused_undone : (code : ℕ) → is_done (refusal_data (row_named (service.Locator commands.Redirect)) code) ≡ false
refused_undone code = refl

names_redirect : (service_is name : List ℕ) → is_redirect service_is name ≡ true → name_in service_is name ≡ Some (service.Locator commands.Redirect)
unfolding locator redirect_name
names_redirect service_is name is =
    let parts = and_parts (bytes_eq service_is locator) (bytes_eq name redirect_name) is in
    (names_are_exact service_is name (service.Locator commands.Redirect)).1 ((bytes_eq-Decides service_is locator).0 parts.0, (bytes_eq-Decides name redirect_name).0 parts.1)

known_undone : (channel : ℕ) (command : Command) (target : TargetValue) → named_as command ≡ service.Locator commands.Redirect → is_done (answer_data command (exec_effect channel command target).answer) ≡ false
unfolding exec_effect
known_undone channel (Redirect peer) target is = refused_undone 7
known_undone channel command target is = absurd cc

refusal_undone : (named : Option CommandName) (code : ℕ) → named ≡ Some (service.Locator commands.Redirect) → Refuses (refusal named code)
refusal_undone named code is = subst (λ n. Refuses (refusal n code)) (sym is) (refused_undone code)

pub redirect_refused : (channel : ℕ) (service_is name : List ℕ) (reading : Reading) (target : TargetValue) → IsReading service_is name reading → is_redirect service_is name ≡ true
    → Refuses (executed channel service_is name reading target).answer
redirect_refused channel service_is name (readings.Known command) target read is =
    let both : Some (named_as command) ≡ Some (service.Locator commands.Redirect) = sym (known_are_readable service_is name command read).0 ∙ names_redirect service_is name is in
    let same : named_as command ≡ service.Locator commands.Redirect = cc in
    known_undone channel command target same
redirect_refused channel service_is name readings.Unknown target read is = tt
redirect_refused channel service_is name (readings.Bad index code) target read is =
    refusal_undone (name_in service_is name) code (names_redirect service_is name is)
