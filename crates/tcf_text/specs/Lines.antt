-- What the lines of a log say of the commands that were accepted and of their answers.
use Rattle.std.specs.Prelude.{ℕ, List, [], ◌∷◌, Option, None, Some, Bool, true, false, if◌then◌else◌}
use Rattle.std.specs.List.{flat_map, list_any}
use Rattle.tcf_text.specs.declared.log.LogLine.{LogLine}
use Rattle.tcf_text.specs.declared.log.LogLine.TheVariants.{Sent, Hello, Event, Progress, Final, Unknown, Closed}

-- an accepted command: its number, service, name and data
pub record Accepted : Type 0 where
  pub number : ℕ
  pub service : List ℕ
  pub name : List ℕ
  pub body : List ℕ

abbrev pub accepted_by : LogLine → List Accepted
accepted_by (Sent number service name body) = record { number = number; service = service; name = name; body = body } ∷ []
accepted_by _ = []

-- the accepted commands, in order: those of the `sent` lines
abbrev pub accepted : List LogLine → List Accepted
accepted log = flat_map accepted_by log

-- the number of the command that a line answers for good: `result`, `unknown` and `closed`
abbrev pub final_of : LogLine → List ℕ
final_of (Final number mark body) = number ∷ []
final_of (Unknown number mark) = number ∷ []
final_of (Closed number) = number ∷ []
final_of _ = []

-- the numbers of the commands that have a final answer, in the order of these answers
abbrev pub finals : List LogLine → List ℕ
finals log = flat_map final_of log

-- the number that a `result` or `unknown` line has, where it has no position
abbrev pub bare_answer_of : LogLine → List ℕ
bare_answer_of (Final number None body) = number ∷ []
bare_answer_of (Unknown number None) = number ∷ []
bare_answer_of line = []

-- the mark of a line that tells of a message
abbrev pub mark_of : LogLine → Option (Option ℕ)
mark_of (Hello mark body) = Some mark
mark_of (Event mark service name body) = Some mark
mark_of (Progress number mark body) = Some mark
mark_of (Final number mark body) = Some mark
mark_of (Unknown number mark) = Some mark
mark_of _ = None

abbrev pub later_or : {A : Type 0} → Option A → Option A → Option A
later_or (Some later) earlier = Some later
later_or None earlier = earlier

-- the mark of the last message that the log tells of
abbrev pub last_mark : List LogLine → Option (Option ℕ)
last_mark [] = None
last_mark (line ∷ lines) = later_or (last_mark lines) (mark_of line)

-- a line for a Hello with a position
abbrev pub is_placed_hello : LogLine → Bool
is_placed_hello (Hello (Some position) body) = true
is_placed_hello line = false

-- the lines from the last Hello with a position on; none where there is no such Hello
abbrev pub from_hello : List LogLine → List LogLine
from_hello [] = []
from_hello (line ∷ lines) =
    if list_any is_placed_hello lines then from_hello lines
    else if is_placed_hello line then line ∷ lines
    else []
