-- What the data of a command is read as.
use Rattle.std.specs.Prelude.{ℕ, ◌≡◌, Bool, false, not, ◌==◌, List, [], ◌∷◌, Option, Some, None, IsSome, Result, Ok, Err, if◌then◌else◌}
use Rattle.json_args.specs.Parts.{parts_of}
use Rattle.json_args.specs.declared.fault.ArgFault.{ArgFault}
use Rattle.json_args.specs.declared.fault.ArgFault.TheVariants.{NotEnded, Missing, Syntax, Shape, Base64, NoMemory}
use Rattle.service_names.specs.Commands.{name_in}
use Rattle.command_tables.specs.Rows.{row_of}
use Rattle.service_names.specs.declared.commands.CommandName.{CommandName}
use Rattle.command_tables.specs.declared.reading.Reading.{Reading}
use Rattle.command_tables.specs.declared.reading.Reading.TheVariants.{Known, Unknown, Bad}
use Rattle.tcf_values.specs.declared.command.Command.{Command}

-- the last byte isn't zero
abbrev pub is_unended : List ℕ → Bool
is_unended [] = false
is_unended (b ∷ []) = not (b == 0)
is_unended (b ∷ c ∷ body) = is_unended (c ∷ body)

-- the argument that can't be read, and the code that says why: 2 for no JSON, 8 for no base64, 3 for all else
abbrev pub bad_of : ArgFault → Reading
bad_of NotEnded = Bad 0 3
bad_of (Missing index) = Bad index 3
bad_of (Syntax index) = Bad index 2
bad_of (Shape index) = Bad index 3
bad_of (Base64 index) = Bad index 8
bad_of NoMemory = Bad 0 3

-- a command, or the first argument that can't be read
abbrev pub reading_by : Result Command ArgFault → Reading
reading_by (Ok command) = Known command
reading_by (Err fault) = bad_of fault

abbrev pub reading_in : List ℕ → Option CommandName → Reading
reading_in body None = Unknown
reading_in body (Some command) = if is_unended body then bad_of NotEnded else reading_by (row_of command 0 (parts_of body))

-- what data of this service and name is read as
abbrev pub reading_of : List ℕ → List ℕ → List ℕ → Reading
reading_of service name body = reading_in body (name_in service name)

-- what data of this service and name is read as: a known command is what some data is read as, and what is bad is a
-- fault of an argument
abbrev pub IsReading : List ℕ → List ℕ → Reading → Type 0
IsReading service name (Known command) = (body : List ℕ) × (reading_of service name body ≡ Known command)
IsReading service name Unknown = name_in service name ≡ None
IsReading service name (Bad index code) = IsSome (name_in service name) × ((fault : ArgFault) × (bad_of fault ≡ Bad index code))
