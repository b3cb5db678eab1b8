-- The commands that a log says were sent, and how each is answered.
use Rattle.std.specs.Prelude.{ℕ, ◌≡◌, ◌==◌, ◌&&◌, Bool, true, false, not, List, [], ◌∷◌, map, Option, None, Some, if◌then◌else◌}
use Rattle.std.specs.List.{AllByRecursion, Contains, flat_map, list_any}
use Rattle.command_tables.specs.Reading.{IsReading}
use Rattle.command_tables.specs.declared.reading.Reading.{Reading}
use Rattle.command_tables.specs.declared.reading.Reading.TheVariants as readings
use Rattle.tcf_values.specs.Changing.{changes}
use Rattle.tcf_values.specs.Storable.{stores}
use Rattle.tcf_text.specs.Lines.{Accepted, accepted, accepted_by, bare_answer_of}
use Rattle.tcf_text.specs.Once.{AreCounted}
use Rattle.tcf_text.specs.declared.log.LogLine.{LogLine}
use Rattle.target_hub.specs.Received.{read}
use Rattle.log_check.specs.declared.sorts.Command.{Command}
use Rattle.log_check.specs.declared.sorts.Sort.{Sort}
use Rattle.log_check.specs.declared.sorts.Sort.TheVariants.{Storable, Through, Barrier}

-- it is a reading of some names
abbrev pub IsSomeReading : Reading → Type 0
IsSomeReading reading = (service : List ℕ) × ((name : List ℕ) × IsReading service name reading)

-- any peer may answer what is storable; behind what changes the target, or isn't read, no peer answers from what it kept
abbrev pub sort_by : Reading → Sort
sort_by (readings.Known command) = if stores command then Storable else if changes command then Barrier else Through
sort_by readings.Unknown = Barrier
sort_by (readings.Bad index code) = Barrier

-- no peer but the target answers a command of this sort
abbrev pub is_sent_on : Sort → Bool
is_sent_on Storable = false
is_sent_on Through = true
is_sent_on Barrier = true

abbrev pub accepted_as : Command → Accepted
accepted_as c = record { number = c.number; service = c.service.now; name = c.name.now; body = c.body.now }

-- commands as the log has them
abbrev pub as_accepted : List Command → List Accepted
as_accepted commands = map accepted_as commands

-- a message without a position answered the command of this number
abbrev pub is_bare : List LogLine → ℕ → Bool
is_bare log number = list_any (λ n. n == number) (flat_map bare_answer_of log)

-- the command's sort is that of its reading
abbrev pub HasItsSort : Command → Type 0
HasItsSort c = c.sort ≡ sort_by (read (accepted_as c)).reading

-- the command was answered as these lines say
abbrev pub IsAnsweredIn : List LogLine → Command → Type 0
IsAnsweredIn log c = c.is_bare ≡ is_bare log c.number

-- the commands are those that the log says were sent, in order
pub record AreOfLog (log : List LogLine) (commands : List Command) : Type 0 where
  pub accepted_are : as_accepted commands ≡ accepted log
  pub sorts : AllByRecursion HasItsSort commands
  pub bare : AllByRecursion (IsAnsweredIn log) commands

-- the commands have the numbers 1, 2, 3 and so on, and their sorts
pub record AreSorted (commands : List Command) : Type 0 where
  pub counted : AreCounted (as_accepted commands)
  pub sorts : AllByRecursion HasItsSort commands

-- the command that a line says was sent, or none
abbrev pub IsCommandIn : LogLine → Option Command → Type 0
IsCommandIn line None = accepted_by line ≡ []
IsCommandIn line (Some c) = (accepted_by line ≡ accepted_as c ∷ []) × HasItsSort c

-- the one command of this number among those of a log
pub record IsCommandOf (commands : List Command) (number : ℕ) (c : Command) : Type 0 where
  pub there : Contains (as_accepted commands) (accepted_as c)
  pub numbered : c.number ≡ number
  pub sort : HasItsSort c
  pub alone : (other : Accepted) → Contains (as_accepted commands) other → other.number ≡ number → other ≡ accepted_as c

-- no command has this number
pub record IsOfNone (commands : List Command) (number : ℕ) : Type 0 where
  pub none : (other : Accepted) → Contains (as_accepted commands) other → other.number ≡ number → ⊥

-- the command goes through to the target, which alone answers it
abbrev pub passes : Command → Bool
passes c = is_sent_on c.sort && not c.is_bare
