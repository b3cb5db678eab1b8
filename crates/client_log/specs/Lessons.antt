-- What the lines of a client's log teach, which say the messages that it took.
use Rattle.std.specs.Prelude.{ℕ, ◌-◌, List, [], ◌∷◌, ◌++◌, slice_get, Option, option_map}
use Rattle.cache_learning.specs.Kept.{Keeps}
use Rattle.cache_learning.specs.Lessons.{event_message, final_message}
use Rattle.channel_core.specs.Wire.{hello, locator}
use Rattle.command_tables.specs.Reading.{reading_of}
use Rattle.command_tables.specs.declared.reading.Reading.{Reading}
use Rattle.knowledge.specs.KnowledgeValue.{KnowledgeValue}
use Rattle.knowledge.specs.Learning.{Message, other_taken}
use Rattle.tcf_text.specs.Lines.{Accepted, accepted_by}
use Rattle.tcf_text.specs.declared.log.LogLine.{LogLine}
use Rattle.tcf_text.specs.declared.log.LogLine.TheVariants.{Hello, Event, Progress, Final, Unknown}

-- the command of this number, where commands are numbered from 1 as they are accepted
abbrev pub numbered : ℕ → List Accepted → Option Accepted
numbered number commands = slice_get commands (number - 1)

abbrev pub reading_as : Option Accepted → Option Reading
reading_as command = option_map (λ c. reading_of c.service c.name c.body) command

-- the message that a line says, where these commands were accepted before it. A line of another kind says none
abbrev pub lesson_of : List Accepted → LogLine → List Message
lesson_of commands (Hello mark body) = event_message locator hello body ∷ []
lesson_of commands (Event mark service name body) = event_message service name body ∷ []
lesson_of commands (Progress number mark body) = other_taken ∷ []
lesson_of commands (Final number mark body) = final_message (reading_as (numbered number commands)) body ∷ []
lesson_of commands (Unknown number mark) = other_taken ∷ []
lesson_of commands line = []

abbrev pub lessons_from : List Accepted → List LogLine → List Message
lessons_from commands [] = []
lessons_from commands (line ∷ lines) = lesson_of commands line ++ lessons_from (commands ++ accepted_by line) lines

-- the messages that a log says, from its first line on. A Hello makes all forgotten, so what is known is what the
-- messages of the binding teach
abbrev pub lessons : List LogLine → List Message
lessons log = lessons_from [] log

-- whatever messages the cache keeps, it keeps these behind them too
abbrev pub KeepsThese : List Message → KnowledgeValue → KnowledgeValue → Type 0
KeepsThese messages before now = (earlier : List Message) → Keeps earlier before → Keeps (earlier ++ messages) now
