-- What is read is a reading of its names.
use Rattle.std.specs.Prelude.{ℕ, ◌≡◌, List, Some}
use Rattle.command_tables.specs.Canonical.{IsReadable}
use Rattle.command_tables.specs.Reading.{IsReading, reading_of}
use Rattle.command_tables.specs.declared.reading.Reading.TheVariants.{Known}
use Rattle.service_names.specs.Commands.{name_in, named_as}
use Rattle.tcf_values.specs.declared.command.Command.{Command}

-- whatever the data of a command, it is read as a command that some data is, or as a fault of an argument
abbrev pub ReadingsAreLegal : Type 0
ReadingsAreLegal = (service name body : List ℕ) → IsReading service name (reading_of service name body)

-- a command that some data is read as has the name that it was read under, and is within the limits of what is read
abbrev pub KnownAreReadable : Type 0
KnownAreReadable = (service name : List ℕ) (command : Command) → IsReading service name (Known command)
    → (name_in service name ≡ Some (named_as command)) × IsReadable command
