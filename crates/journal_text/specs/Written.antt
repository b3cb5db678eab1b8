-- How a journal is written, and that it is read back.
use Rattle.std.specs.Prelude.{ℕ, ◌≡◌, ◌++◌, List, [], ◌∷◌, map, flat_map, codes, decimal, Ok, IsTrue, Some}
use Rattle.std.specs.List.{AllByRecursion}
use Rattle.hex.specs.Hex.{encode_lower}
use Rattle.command_tables.specs.Canonical.{body_of}
use Rattle.command_tables.specs.declared.reading.Reading.{Reading}
use Rattle.command_tables.specs.declared.reading.Reading.TheVariants as readings
use Rattle.tcf_values.specs.Spelling.{context_spelling}
use Rattle.target_contexts.specs.declared.process.Image.{Image}
use Rattle.target_hub.specs.declared.input.Input.{Input}
use Rattle.target_hub.specs.declared.input.Input.TheVariants.{Opened, Executed, Ticked, Closed}
use Rattle.tcf_schedules.specs.Line.{image_word}
use Rattle.tcf_schedules.specs.Plan.{IsThread}
use Rattle.tcf_schedules.specs.Schedule.{AreDistinct}
use Rattle.tcf_schedules.specs.Words.{is_name}
use Rattle.tcf_text.specs.Log.{lines_text, named_text, numbered, word_text}
use Rattle.tcf_text.specs.Reading.{CanBeRead, IsLong}
use Rattle.tcf_text.specs.Said.{AreShown, IsByte}
use Rattle.tcf_text.specs.declared.log.LogLine.{LogLine}
use Rattle.tcf_text.specs.declared.log.Showing.TheVariants.{Readable}
use Rattle.journal_text.specs.Inputs.{InputIsRead, bad_word, closed_word, input_of, known_word, opened_word, ticked_word, unknown_word}
use Rattle.journal_text.specs.Journal.{journal_of, log_word}

-- ---- How it is written

-- the digits of some bytes, `-` where there is none
abbrev pub hex_text : List ℕ → List ℕ
hex_text [] = codes "-"
hex_text (byte ∷ bytes) = encode_lower (byte ∷ bytes)

-- `image NAME HEX`
abbrev pub image_text : Image → List ℕ
image_text image = image_word ++ 32 ∷ image.name ++ 32 ∷ hex_text image.bytes ++ 10 ∷ []

-- SERVICE COMMAND behind a blank
abbrev pub names_text : List ℕ → List ℕ → List ℕ
names_text service name = word_text Readable service ++ word_text Readable name

-- `known K SERVICE COMMAND ARGS` with the canonical data, `unknown K SERVICE COMMAND`, and
-- `bad K INDEX CODE SERVICE COMMAND`
abbrev pub executed_text : ℕ → Reading → List ℕ → List ℕ → List ℕ
executed_text channel (readings.Known command) service name = numbered known_word channel ++ named_text Readable service name (body_of command)
executed_text channel readings.Unknown service name = numbered unknown_word channel ++ names_text service name
executed_text channel (readings.Bad index code) service name =
    numbered bad_word channel ++ 32 ∷ decimal index ++ 32 ∷ decimal code ++ names_text service name

-- an input without its end
abbrev pub input_words : Input → List ℕ
input_words (Opened channel) = numbered opened_word channel
input_words (Executed channel reading service name) = executed_text channel reading service name
input_words (Ticked thread) = ticked_word ++ 32 ∷ context_spelling thread
input_words (Closed channel) = numbered closed_word channel

abbrev pub input_text : Input → List ℕ
input_text input = input_words input ++ 10 ∷ []

-- the images, the inputs, the line `log`, and the lines of the log
abbrev pub journal_text : List Image → List Input → List LogLine → List ℕ
journal_text images inputs lines =
    flat_map image_text images ++ flat_map input_text inputs ++ log_word ++ 10 ∷ lines_text Readable lines

-- ---- What is written is read

-- a name, and bytes
abbrev pub IsImage : Image → Type 0
IsImage image = IsTrue (is_name image.name) × AllByRecursion IsByte image.bytes

abbrev pub IsIndex : Reading → Type 0
IsIndex (readings.Known command) = Unit {0}
IsIndex readings.Unknown = Unit {0}
IsIndex (readings.Bad index code) = IsLong index

-- a channel below 2^64, a thread by its numbers from 1 on, and words without a zero byte
abbrev pub IsInput : Input → Type 0
IsInput (Opened channel) = IsLong channel
IsInput (Executed channel reading service name) = IsLong channel × IsIndex reading × AreShown service × AreShown name
IsInput (Ticked thread) = IsThread thread
IsInput (Closed channel) = IsLong channel

pub record CanBeWritten (images : List Image) (inputs : List Input) (lines : List LogLine) : Type 0 where
  pub images_are : AllByRecursion IsImage images
  pub distinct : AreDistinct (map (λ (i : Image). i.name) images)
  pub inputs_are : AllByRecursion IsInput inputs
  pub read : AllByRecursion InputIsRead inputs
  pub lines_are : AllByRecursion CanBeRead lines

-- what is written is read
abbrev pub IsReadBack : List Image → List Input → List LogLine → Type 0
IsReadBack images inputs lines = CanBeWritten images inputs lines →
    journal_of (journal_text images inputs lines) ≡ Ok (record { images = images; inputs = inputs; lines = lines })

-- an input that is written is read
abbrev pub IsInputBack : Input → Type 0
IsInputBack input = IsInput input → input_of (input_words input) ≡ Some input
