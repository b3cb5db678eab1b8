-- What a value-add that isn't bound answers itself to a redirect has an error.
use Rattle.std.proofs.Common.{◌≡◌, ℕ, Bool, true, false, List, Option, Some, refl, sym, ◌∙◌, subst}
use Rattle.std.specs.Prelude.{bytes_eq, if◌then◌else◌}
use Rattle.std.proofs.lemmas.Bool.{and_parts}
use Rattle.std.proofs.lemmas.Slice.Eq.{bytes_eq-Decides}
use Rattle.channel_core.specs.Wire.{is_done, is_redirect, locator, redirect_name}
use Rattle.command_tables.specs.Reading.{IsReading, reading_of}
use Rattle.command_tables.specs.declared.reading.Reading.{Reading}
use Rattle.command_tables.specs.declared.reading.Reading.TheVariants.{Known, Unknown as IsUnknown, Bad}
use Rattle.reply_tables.specs.Written.{answer_data}
use Rattle.service_names.specs.Commands.{name_in, named_as}
use Rattle.service_names.specs.declared.commands.CommandName.{CommandName}
use Rattle.service_names.specs.declared.commands.CommandName.TheVariants as named
use Rattle.service_names.specs.declared.commands.LocatorCommand.TheVariants as commands
use Rattle.tcf_values.specs.Errors.{report_of}
use Rattle.tcf_values.specs.declared.answer.Answer.TheVariants.{Failed}
use Rattle.tcf_values.specs.declared.command.Command.{Command}
use Rattle.tcf_values.specs.declared.command.Command.TheVariants.{Sync, GetPeers, Redirect}
use Rattle.value_node.specs.Own.{is_peer, own_by, own_named, own_reply, own_to, redirect_failed, unknown_peer}
use Rattle.value_node.specs.declared.own.Own.{Own}
use Rattle.value_node.specs.declared.own.Own.TheVariants as own
use Rattle.command_tables.proofs.TheLaws.{known_are_readable, readings_are_legal}
use Rattle.service_names.proofs.TheLaws.{names_are_exact}

abbrev pub IsFailed : Own → Type 0
IsFailed own.Unknown = Unit {0}
IsFailed (own.Result body) = is_done body ≡ false
IsFailed own.Connect = Unit {0}

-- so has the answer to one whose connection isn't made
pub failed_undone : is_done redirect_failed ≡ false
unfolding redirect_failed
failed_undone = refl

failed_if : (flag : Bool) (id : List ℕ) → IsFailed (if flag then own.Connect else own.Result (answer_data (Redirect id) (Failed (report_of unknown_peer))))
failed_if true id = tt
failed_if false id = refl

failed_to : (peer : List ℕ) (c : Command) → ◌≡◌ {A = Option CommandName} (Some (named_as c)) (Some (named.Locator commands.Redirect)) → IsFailed (own_to peer c)
unfolding own_to
failed_to peer (Redirect id) is = failed_if (is_peer peer id) id
failed_to peer Sync is = absurd cc
failed_to peer GetPeers is = absurd cc
failed_to peer c is = tt

failed_by : (peer service name : List ℕ) (reading : Reading) → name_in service name ≡ Some (named.Locator commands.Redirect) → IsReading service name reading
    → IsFailed (own_by peer (named.Locator commands.Redirect) reading)
unfolding own_by
failed_by peer service name (Known c) is read = failed_to peer c (sym (known_are_readable service name c read).0 ∙ is)
failed_by peer service name IsUnknown is read = tt
failed_by peer service name (Bad index code) is read = refl

pub redirect_read : (service name : List ℕ) → is_redirect service name ≡ true → name_in service name ≡ Some (named.Locator commands.Redirect)
unfolding locator redirect_name
redirect_read service name is =
    let both = and_parts (bytes_eq service locator) (bytes_eq name redirect_name) is in
    (names_are_exact service name (named.Locator commands.Redirect)).1 ((bytes_eq-Decides service locator).0 both.0, (bytes_eq-Decides name redirect_name).0 both.1)

pub reply_failed : (peer service name body : List ℕ) → is_redirect service name ≡ true → IsFailed (own_reply peer service name body)
unfolding own_reply
reply_failed peer service name body asks =
    let is = redirect_read service name asks in
    subst (λ (c : Option CommandName). IsFailed (own_named peer c (reading_of service name body))) (sym is) (failed_by peer service name (reading_of service name body) is (readings_are_legal service name body))
