-- A redirect is told by its service and its name, and its answer can be sent.
use Rattle.std.proofs.Common.{◌≡◌, ◌≤◌, ℕ, true, List, length, Some, subst, sym}
use Rattle.std.specs.Prelude.{bytes_eq}
use Rattle.std.proofs.lemmas.Bool.{and_parts}
use Rattle.std.proofs.lemmas.Slice.Eq.{bytes_eq-Decides}
use Rattle.channel_core.specs.Wire.{is_redirect, locator, redirect_name}
use Rattle.reply_tables.specs.Rows.{row_named}
use Rattle.service_names.specs.Commands.{name_in}
use Rattle.service_names.specs.declared.commands.CommandName.TheVariants.{Locator}
use Rattle.service_names.specs.declared.commands.LocatorCommand.TheVariants.{Redirect}
use Rattle.tcf_message.specs.Message.{most_body}
use Rattle.hub_node.specs.Redirects.{redirect_data}
use Rattle.reply_tables.proofs.TheLaws.{refusals_fit}
use Rattle.service_names.proofs.TheLaws.{names_are_exact}

pub redirect_named : (service name : List ℕ) → is_redirect service name ≡ true → name_in service name ≡ Some (Locator Redirect)
unfolding locator redirect_name
redirect_named service name is =
    let both = and_parts (bytes_eq service locator) (bytes_eq name redirect_name) is in
    (names_are_exact service name (Locator Redirect)).1 ((bytes_eq-Decides service locator).0 both.0, (bytes_eq-Decides name redirect_name).0 both.1)

-- its answer can be sent
pub redirect_fits : (code : ℕ) (reply : List ℕ) → reply ≡ redirect_data code → length reply ≤ most_body
unfolding redirect_data
redirect_fits code reply is = subst (λ (body : List ℕ). length body ≤ most_body) (sym is) (refusals_fit (row_named (Locator Redirect)) code)
