-- The last lines of runs.
use Rattle.std.specs.Prelude.{ℕ, List, [], ◌∷◌, ◌++◌, codes}
use Rattle.std.specs.Fmt.{decimal}
use Rattle.tcf_schedules.specs.declared.schedule.TextFault.{TextFault}
use Rattle.tcf_schedules.specs.declared.schedule.TextFault.TheVariants.{Form, Late, Repeat, Unknown, Many}
use Rattle.log_check.specs.declared.rule.Rule.{Rule}
use Rattle.log_check.specs.declared.rule.Rule.TheVariants as rules
use Rattle.tcf_app.specs.declared.exit.BadPlace.{BadPlace}
use Rattle.tcf_app.specs.declared.exit.StreamWhat.{StreamWhat}
use Rattle.tcf_app.specs.declared.exit.StreamWhat.TheVariants.{Escape, Long, AfterEnd, Unended, Empty, Kind, Field, Token, Level, Trailing, Body}

unfoldable pub usage_text : List ℕ
usage_text = codes "usage: tcf chain FILE | show FILE | load NUMBER | agent ADDRESS TURNS [NAME=FILE ..] | value ADDRESS PEER TURNS | client ADDRESS SCRIPT TURNS | hub ADDRESS PEER TURNS | journal FILE NAME | check FILE\n"

unfoldable pub file_fault_text : List ℕ
file_fault_text = codes "file fault\n"

unfoldable pub wire_fault_text : List ℕ
wire_fault_text = codes "wire fault\n"

unfoldable pub too_long_front : List ℕ
too_long_front = codes "file too long: word "

unfoldable pub turns_front : List ℕ
turns_front = codes "turns "

unfoldable pub bad_line_front : List ℕ
bad_line_front = codes "bad line "

unfoldable pub bad_stream_front : List ℕ
bad_stream_front = codes "bad stream at "

unfoldable pub ok_text : List ℕ
ok_text = codes "ok\n"

unfoldable pub differs_front : List ℕ
differs_front = codes "differs: "

-- the word of a rule
unfoldable pub rule_word : Rule → List ℕ
rule_word rules.Legal = codes "legal"
rule_word rules.Once = codes "once"
rule_word rules.Positions = codes "positions"
rule_word rules.Order = codes "order"
rule_word rules.Executed = codes "executed"
rule_word rules.Fresh = codes "fresh"

-- the last line where this is the first rule that a journal breaks
abbrev pub differs_text : Rule → List ℕ
differs_text rule = differs_front ++ rule_word rule ++ 10 ∷ []

-- a colon and a blank
unfoldable pub colon : List ℕ
colon = codes ": "

-- the word of a line's fault
unfoldable pub fault_word : TextFault → List ℕ
fault_word Form = codes "form"
fault_word Late = codes "late"
fault_word Repeat = codes "repeat"
fault_word Unknown = codes "unknown"
fault_word Many = codes "many"

-- the word of what is bad of a stream
unfoldable pub what_word : StreamWhat → List ℕ
what_word Escape = codes "escape"
what_word Long = codes "long"
what_word AfterEnd = codes "after-end"
what_word Unended = codes "unended"
what_word Empty = codes "empty"
what_word Kind = codes "kind"
what_word Field = codes "field"
what_word Token = codes "token"
what_word Level = codes "level"
what_word Trailing = codes "trailing"
what_word Body = codes "body"

-- a line of a number behind its front
abbrev pub number_text : List ℕ → ℕ → List ℕ
number_text front number = front ++ decimal number ++ 10 ∷ []

-- the last line where the file that this word names is too long
abbrev pub too_long_text : ℕ → List ℕ
too_long_text word = number_text too_long_front word

-- the last line of a serving that took so many events
abbrev pub turns_text : ℕ → List ℕ
turns_text events = number_text turns_front events

-- the last line where something is bad: its place and what it is
abbrev pub place_text : List ℕ → ℕ → List ℕ → List ℕ
place_text front place word = front ++ decimal place ++ colon ++ word ++ 10 ∷ []

-- the last line where a schedule's line is bad
abbrev pub bad_line_text : ℕ → TextFault → List ℕ
bad_line_text line what = place_text bad_line_front line (fault_word what)

-- the last line where a stream is bad
abbrev pub bad_stream_text : BadPlace → List ℕ
bad_stream_text bad = place_text bad_stream_front bad.offset (what_word bad.what)
