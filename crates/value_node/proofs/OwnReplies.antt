-- A value-add answers by a result where the service is Locator alone, and it does only redirects.
use Rattle.std.proofs.Common.{◌≡◌, ℕ, Bool, true, false, List, Option, Some, refl, ap, ◌∙◌}
use Rattle.std.specs.Prelude.{if◌then◌else◌}
use Rattle.channel_core.specs.Wire.{is_redirect, locator, redirect_name}
use Rattle.command_tables.specs.Reading.{IsReading, reading_of}
use Rattle.command_tables.specs.declared.reading.Reading.{Reading}
use Rattle.command_tables.specs.declared.reading.Reading.TheVariants.{Known, Unknown as IsUnknown, Bad}
use Rattle.reply_tables.specs.Written.{answer_data}
use Rattle.service_names.specs.Commands.{name_in, named_as}
use Rattle.service_names.specs.declared.commands.CommandName.{CommandName}
use Rattle.service_names.specs.declared.commands.CommandName.TheVariants as named
use Rattle.service_names.specs.declared.commands.LocatorCommand.{LocatorCommand}
use Rattle.service_names.specs.declared.commands.LocatorCommand.TheVariants as commands
use Rattle.tcf_values.specs.Errors.{report_of}
use Rattle.tcf_values.specs.declared.answer.Answer.TheVariants.{Failed}
use Rattle.tcf_values.specs.declared.command.Command.{Command}
use Rattle.tcf_values.specs.declared.command.Command.TheVariants.{Sync, GetPeers, Redirect}
use Rattle.value_node.specs.Own.{is_peer, own_by as own_of, own_named, own_reply, own_to, unknown_peer}
use Rattle.value_node.specs.declared.own.Own.{Own}
use Rattle.value_node.specs.declared.own.Own.TheVariants as own
use Rattle.command_tables.proofs.TheLaws.{known_are_readable, readings_are_legal}
use Rattle.service_names.proofs.TheLaws.{names_are_exact}

abbrev pub IsReplyTo : List ℕ → List ℕ → Own → Type 0
IsReplyTo service name own.Unknown = Unit {0}
IsReplyTo service name (own.Result body) = service ≡ locator
IsReplyTo service name own.Connect = is_redirect service name ≡ true

redirects : is_redirect locator redirect_name ≡ true
unfolding locator redirect_name
redirects = refl

redirect_is : (service name : List ℕ) → service ≡ locator → name ≡ redirect_name → is_redirect service name ≡ true
redirect_is service name at so = ap (λ s. is_redirect s name) at ∙ ap (is_redirect locator) so ∙ redirects

reply_if : (service name : List ℕ) (flag : Bool) (one other : Own) → IsReplyTo service name one → IsReplyTo service name other → IsReplyTo service name (if flag then one else other)
reply_if service name true one other first second = first
reply_if service name false one other first second = second

located : (service name : List ℕ) (command : LocatorCommand) → name_in service name ≡ Some (named.Locator command) → service ≡ locator
unfolding locator
located service name command is = ((names_are_exact service name (named.Locator command)).0 is).0

redirected : (service name : List ℕ) → name_in service name ≡ Some (named.Locator commands.Redirect) → name ≡ redirect_name
unfolding redirect_name
redirected service name is = ((names_are_exact service name (named.Locator commands.Redirect)).0 is).1

reply_to : (peer service name : List ℕ) (c : Command) → service ≡ locator → name_in service name ≡ Some (named_as c) → IsReplyTo service name (own_to peer c)
unfolding own_to
reply_to peer service name Sync at is = at
reply_to peer service name GetPeers at is = at
reply_to peer service name (Redirect id) at is =
    reply_if service name (is_peer peer id) own.Connect (own.Result (answer_data (Redirect id) (Failed (report_of unknown_peer))))
    (redirect_is service name at (redirected service name is)) at
reply_to peer service name c at is = tt

reply_by : (peer service name : List ℕ) (command : CommandName) (reading : Reading) → service ≡ locator → IsReading service name reading → IsReplyTo service name (own_of peer command reading)
unfolding own_of
reply_by peer service name command (Known c) at read = reply_to peer service name c at (known_are_readable service name c read).0
reply_by peer service name command IsUnknown at read = tt
reply_by peer service name command (Bad index code) at read = at

reply_named : (peer service name : List ℕ) (command : Option CommandName) (reading : Reading) → name_in service name ≡ command → IsReading service name reading
    → IsReplyTo service name (own_named peer command reading)
reply_named peer service name (Some (named.Locator command)) reading is read = reply_by peer service name (named.Locator command) reading (located service name command is) read
reply_named peer service name command reading is read = tt

pub reply_is : (peer service name body : List ℕ) → IsReplyTo service name (own_reply peer service name body)
unfolding own_reply
reply_is peer service name body = reply_named peer service name (name_in service name) (reading_of service name body) refl (readings_are_legal service name body)
