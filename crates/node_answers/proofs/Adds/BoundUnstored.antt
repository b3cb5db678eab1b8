-- A redirect is never answered from the store.
use Rattle.std.proofs.Common.{◌≡◌, ℕ, true, List, Some, ap, ◌∙◌}
use Rattle.channel_core.specs.Wire.{is_redirect}
use Rattle.command_tables.specs.Reading.{IsReading, reading_of}
use Rattle.command_tables.specs.declared.reading.Reading.{Reading}
use Rattle.command_tables.specs.declared.reading.Reading.TheVariants.{Bad, Known, Unknown}
use Rattle.service_names.specs.Commands.{name_in, named_as}
use Rattle.service_names.specs.declared.commands.CommandName.TheVariants as named
use Rattle.service_names.specs.declared.commands.LocatorCommand.TheVariants as commands
use Rattle.tcf_values.specs.Storable.{stores}
use Rattle.tcf_values.specs.declared.command.Command.{Command}
use Rattle.tcf_values.specs.declared.command.Command.TheVariants.{Redirect, GetContext, GetState, BpProperties, BpGetStatus, MemGet, RegGet, RegGetm}
use Rattle.value_node.specs.Asked.{Asked}
use Rattle.value_node.specs.Barriers.{command_in}
use Rattle.value_node.specs.Deeds.{command_asked}
use Rattle.command_tables.proofs.TheLaws.{known_are_readable, readings_are_legal}
use Rattle.node_answers.proofs.Adds.Failing.{redirect_read}

stores_none : (command : Command) → named_as command ≡ named.Locator commands.Redirect → stores command ≡ true → ⊥
stores_none (Redirect peer) is stored = absurd cc
stores_none (GetContext id) is stored = absurd cc
stores_none (GetState id) is stored = absurd cc
stores_none (BpProperties id) is stored = absurd cc
stores_none (BpGetStatus id) is stored = absurd cc
stores_none (MemGet id addr word size mode) is stored = absurd cc
stores_none (RegGet id) is stored = absurd cc
stores_none (RegGetm list) is stored = absurd cc
stores_none command is stored = absurd cc

-- a reading of these names is that of a redirect
read_so : (service name : List ℕ) (reading : Reading) (command : Command) → IsReading service name reading → command_in reading ≡ Some command → name_in service name ≡ Some (named_as command)
read_so service name (Known c) command is some = let same : c ≡ command = cc in (known_are_readable service name c is).0 ∙ ap (λ x. Some (named_as x)) same
read_so service name Unknown command is some = absurd cc
read_so service name (Bad index code) command is some = absurd cc

pub redirect_unstored : (c : Asked) (command : Command) → is_redirect c.service c.name ≡ true → command_asked c ≡ Some command → stores command ≡ true → ⊥
redirect_unstored c command redirects read stored =
    let one : name_in c.service c.name ≡ Some (named.Locator commands.Redirect) = redirect_read c.service c.name redirects in
    let two : name_in c.service c.name ≡ Some (named_as command) = read_so c.service c.name (reading_of c.service c.name c.body) command (readings_are_legal c.service c.name c.body) read in
    let same : named_as command ≡ named.Locator commands.Redirect = cc in
    stores_none command same stored
