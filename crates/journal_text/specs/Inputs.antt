-- The inputs of a history as the lines of a journal: how they are read.
use Rattle.std.specs.Prelude.{ℕ, List, [], ◌∷◌, codes, Option, Some, None, option_map, option_and_then, if◌then◌else◌, bytes_eq}
use Rattle.command_tables.specs.Reading.{IsReading, reading_of}
use Rattle.command_tables.specs.declared.reading.Reading.{Reading}
use Rattle.command_tables.specs.declared.reading.Reading.TheVariants as readings
use Rattle.line_words.specs.Words.{only_of, words_of}
use Rattle.service_names.specs.Commands.{name_in}
use Rattle.service_names.specs.declared.commands.CommandName.{CommandName}
use Rattle.target_hub.specs.declared.input.Input.{Input}
use Rattle.target_hub.specs.declared.input.Input.TheVariants.{Opened, Executed, Ticked, Closed}
use Rattle.tcf_schedules.specs.Reading.{thread_of}
use Rattle.tcf_text.specs.Said.{long_number_of, named_said, word_said}
use Rattle.tcf_text.specs.declared.said.Named.{Named}

-- what is executed is a reading of its names
abbrev pub InputIsRead : Input → Type 0
InputIsRead (Opened channel) = Unit {0}
InputIsRead (Executed channel reading service name) = IsReading service name reading
InputIsRead (Ticked thread) = Unit {0}
InputIsRead (Closed channel) = Unit {0}

unfoldable pub opened_word : List ℕ
opened_word = codes "opened"

unfoldable pub known_word : List ℕ
known_word = codes "known"

unfoldable pub unknown_word : List ℕ
unknown_word = codes "unknown"

unfoldable pub bad_word : List ℕ
bad_word = codes "bad"

unfoldable pub ticked_word : List ℕ
ticked_word = codes "ticked"

unfoldable pub closed_word : List ℕ
closed_word = codes "closed"

-- K
abbrev pub channel_said : (ℕ → Input) → List (List ℕ) → Option Input
channel_said made words = option_and_then (λ channel. option_map made (long_number_of channel)) (only_of words)

-- THREAD
abbrev pub ticked_said : List (List ℕ) → Option Input
ticked_said words = option_and_then (λ thread. option_map Ticked (thread_of thread)) (only_of words)

-- a command that is read, with its canonical data or other data that is read as it
abbrev pub known_by : ℕ → List ℕ → List ℕ → Reading → Option Input
known_by channel service name (readings.Known command) = Some (Executed channel (readings.Known command) service name)
known_by channel service name reading = None

-- K SERVICE COMMAND ARGS
abbrev pub known_said : List (List ℕ) → Option Input
known_said [] = None
known_said (channel ∷ words) =
    option_and_then (λ k. option_and_then (λ (c : Named). known_by k c.service c.name (reading_of c.service c.name c.body)) (named_said words)) (long_number_of channel)

-- SERVICE COMMAND alone
abbrev pub names_said : List (List ℕ) → Option (List ℕ × List ℕ)
names_said [] = None
names_said (service ∷ words) =
    option_and_then (λ name. option_and_then (λ s. option_map (λ n. (s, n)) (word_said name)) (word_said service)) (only_of words)

-- a command that the tables don't have
abbrev pub unknown_by : ℕ → List ℕ → List ℕ → Option CommandName → Option Input
unknown_by channel service name None = Some (Executed channel readings.Unknown service name)
unknown_by channel service name (Some command) = None

-- K SERVICE COMMAND
abbrev pub unknown_said : List (List ℕ) → Option Input
unknown_said [] = None
unknown_said (channel ∷ words) =
    option_and_then (λ k. option_and_then (λ names. unknown_by k names.0 names.1 (name_in names.0 names.1)) (names_said words)) (long_number_of channel)

-- 2, 3 or 8
unfoldable pub code_said : List ℕ → Option ℕ
code_said word =
    if bytes_eq word (codes "2") then Some 2 else if bytes_eq word (codes "3") then Some 3 else if bytes_eq word (codes "8") then Some 8 else None

-- a command of the tables, of which this argument can't be read
abbrev pub bad_by : ℕ → ℕ → ℕ → List ℕ → List ℕ → Option CommandName → Option Input
bad_by channel index code service name None = None
bad_by channel index code service name (Some command) = Some (Executed channel (readings.Bad index code) service name)

abbrev pub bad_with : ℕ → ℕ → ℕ → List ℕ × List ℕ → Option Input
bad_with channel index code names = bad_by channel index code names.0 names.1 (name_in names.0 names.1)

-- K INDEX CODE SERVICE COMMAND
abbrev pub bad_said : List (List ℕ) → Option Input
bad_said [] = None
bad_said (channel ∷ []) = None
bad_said (channel ∷ index ∷ []) = None
bad_said (channel ∷ index ∷ code ∷ words) =
    option_and_then (λ k. option_and_then (λ i. option_and_then (λ c. option_and_then (bad_with k i c) (names_said words)) (code_said code)) (long_number_of index)) (long_number_of channel)

-- the input behind this first word
unfoldable pub input_behind : List ℕ → List (List ℕ) → Option Input
input_behind word words =
    if bytes_eq word opened_word then channel_said Opened words
    else if bytes_eq word known_word then known_said words
    else if bytes_eq word unknown_word then unknown_said words
    else if bytes_eq word bad_word then bad_said words
    else if bytes_eq word ticked_word then ticked_said words
    else if bytes_eq word closed_word then channel_said Closed words
    else None

abbrev pub input_in : List (List ℕ) → Option Input
input_in [] = None
input_in (word ∷ words) = input_behind word words

-- the input that the text says, if it says one
abbrev pub input_of : List ℕ → Option Input
input_of text = input_in (words_of text)
