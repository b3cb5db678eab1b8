-- The commands behind which nothing is answered from the store: those that change the target, and those that aren't read.
use Rattle.std.specs.Prelude.{ℕ, Bool, true, false, List, Option, Some, None}
use Rattle.std.specs.List.{count_by, list_any}
use Rattle.channel_core.specs.declared.taking.Taken.{Taken}
use Rattle.channel_core.specs.declared.taking.Taken.TheVariants.{Final}
use Rattle.command_tables.specs.declared.reading.Reading.{Reading}
use Rattle.command_tables.specs.declared.reading.Reading.TheVariants as readings
use Rattle.tcf_values.specs.Changing.{changes}
use Rattle.tcf_values.specs.declared.command.Command.{Command}
use Rattle.value_node.specs.ForwardedValue.{ForwardedValue}

-- the command that the tables read, if any
abbrev pub command_in : Reading → Option Command
command_in (readings.Known command) = Some command
command_in readings.Unknown = None
command_in (readings.Bad index code) = None

abbrev pub is_barrier : Option Command → Bool
is_barrier None = true
is_barrier (Some command) = changes command

abbrev pub bars : ℕ × ForwardedValue → Bool
bars row = is_barrier row.1.command

-- how many of the pending commands are barriers
abbrev pub barriers_in : List (ℕ × ForwardedValue) → ℕ
barriers_in pending = count_by bars pending

-- one of them is
abbrev pub is_barred : List (ℕ × ForwardedValue) → Bool
is_barred pending = list_any bars pending

-- what was taken is the final answer to a barrier
abbrev pub is_barrier_done : Option (Taken ForwardedValue) → Bool
is_barrier_done (Some (Final forwarded incoming)) = is_barrier forwarded.command
is_barrier_done _ = false
