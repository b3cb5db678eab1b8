-- What a log says that the target told.
use Rattle.std.specs.Prelude.{ℕ, ◌==◌, List, [], ◌∷◌, Some, Bool, true, false, if◌then◌else◌}
use Rattle.std.specs.List.{flat_map, list_any}
use Rattle.command_tables.specs.Reading.{reading_of}
use Rattle.tcf_text.specs.Lines.{Accepted, accepted, from_hello}
use Rattle.tcf_text.specs.declared.log.LogLine.{LogLine}
use Rattle.tcf_text.specs.declared.log.LogLine.TheVariants.{Hello, Event, Progress, Final, Unknown}
use Rattle.target_hub.specs.Sent.{Told, hello_at, event_at, progress_at, final_at, unknown_at, ReadCommand, is_through}

-- an accepted command, as a history has it once it is executed
abbrev pub read : Accepted → ReadCommand
read c = record { reading = reading_of c.service c.name c.body; service = c.service; name = c.name }

-- whether that is a through command
abbrev pub goes_through : Accepted → Bool
goes_through c = is_through (reading_of c.service c.name c.body)

-- the command of this number is a through one
abbrev pub is_through_number : ℕ → List Accepted → Bool
is_through_number number commands = list_any (λ c. if c.number == number then goes_through c else false) commands

-- the number that a `result` or `unknown` line has, where it has a position and answers a through command
abbrev pub answer_of : List Accepted → LogLine → List ℕ
answer_of commands (Final number (Some position) body) = if is_through_number number commands then number ∷ [] else []
answer_of commands (Unknown number (Some position)) = if is_through_number number commands then number ∷ [] else []
answer_of commands line = []

-- what a line says that the target told, where it has a position, in a log that accepted these commands
abbrev pub told_of : List Accepted → LogLine → List Told
told_of commands (Hello (Some position) body) = hello_at position body ∷ []
told_of commands (Event (Some position) service name body) = event_at position service name body ∷ []
told_of commands (Progress number (Some position) body) = progress_at position body ∷ []
told_of commands (Final number (Some position) body) = final_at position (is_through_number number commands) body ∷ []
told_of commands (Unknown number (Some position)) = unknown_at position (is_through_number number commands) ∷ []
told_of commands line = []

-- all but the final answers to storable commands
abbrev pub is_owed : Told → Bool
is_owed (hello_at position body) = true
is_owed (event_at position service name body) = true
is_owed (progress_at position body) = true
is_owed (final_at position through body) = through
is_owed (unknown_at position through) = through

-- what the target told, from the last Hello with a position on
abbrev pub received : List LogLine → List Told
received log = flat_map (told_of (accepted log)) (from_hello log)
