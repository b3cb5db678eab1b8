-- What a file of lines says that is a client's script.
use Rattle.std.specs.Prelude.{ℕ, ◌≡◌, ◌≢◌, ◌+◌, ◌↔◌, false, List, [], ◌∷◌, ◌++◌, length, map, codes, Option, Some, None, option_map, option_and_then, Result, Ok, Err, if◌then◌else◌, bytes_eq, IsTrue}
use Rattle.std.specs.List.{AllByRecursion}
use Rattle.tcf_values.specs.Cut.{cut_of}
use Rattle.tcf_message.specs.Message.{HasNoZero}
use Rattle.line_words.specs.Words.{spaced, is_word, both, word_of}
use Rattle.cached_lines.specs.declared.what.CachedWhat.{CachedWhat}
use Rattle.cached_lines.specs.Asked.{IsAsked, cached_spelling}
use Rattle.cached_lines.specs.Reading.{cached_of}
use Rattle.cached_lines.specs.Said.{cached_said}
use Rattle.tcf_schedules.specs.declared.schedule.TextFault.{TextFault}
use Rattle.tcf_schedules.specs.declared.schedule.TextFault.TheVariants.{Form}
use Rattle.tcf_schedules.specs.declared.schedule.TextRefusal.{TextRefusal}
use Rattle.tcf_schedules.specs.declared.schedule.TextRefusal.TheVariants.{Bad, NoMemory}
use Rattle.tcf_schedules.specs.declared.script.ScriptLine.{ScriptLine}
use Rattle.tcf_schedules.specs.declared.script.ScriptLine.TheVariants.{Send, Wait, Cached, Close}
use Rattle.tcf_schedules.specs.declared.script.ScriptSays.{ScriptSays}
use Rattle.tcf_schedules.specs.declared.script.ScriptSays.TheVariants.{Sends, Waits, Asks, Closes}
use Rattle.tcf_schedules.specs.Words.{data_of}
use Rattle.tcf_schedules.specs.Line.{send_word, cached_word, close_word, joined}
use Rattle.tcf_schedules.specs.Reading.{command_of}
use Rattle.tcf_schedules.specs.Refusal.{BadLine}
use Rattle.tcf_schedules.specs.Said.{command_said}
use Rattle.tcf_schedules.specs.Schedule.{lines_of, is_skipped, kept_lines}

-- ---- What a line can say

-- a command by the words that say its parts, a wait, what is asked of the cache, or that the client closes
pub data ScriptLineValue : Type 0 where
  sends : (service command : List ℕ) (args : List (List ℕ)) → ScriptLineValue
  waits : ScriptLineValue
  asks : (what : CachedWhat) → ScriptLineValue
  closes : ScriptLineValue

abbrev pub IsScriptLine : ScriptLineValue → Type 0
IsScriptLine (sends service command args) = IsTrue (is_word service) × IsTrue (is_word command) × AllByRecursion (λ word. IsTrue (is_word word)) args
IsScriptLine waits = Unit {0}
IsScriptLine (asks what) = IsAsked what
IsScriptLine closes = Unit {0}

-- ---- How it is spelled

unfoldable pub wait_word : List ℕ
wait_word = codes "wait"

-- the one text of each line
abbrev pub script_spelling : ScriptLineValue → List ℕ
script_spelling (sends service command args) = spaced send_word (spaced service (joined (command ∷ args)))
script_spelling waits = wait_word
script_spelling (asks what) = spaced cached_word (cached_spelling what)
script_spelling closes = close_word

-- the line is the text of this value
abbrev pub SaysInScript : List ℕ → ScriptLineValue → Type 0
SaysInScript line value = IsScriptLine value × (line ≡ script_spelling value)

-- ---- How it is read

abbrev pub script_sending : List ℕ × (List ℕ × List (List ℕ)) → ScriptLineValue
script_sending s = sends s.0 s.1.0 s.1.1

-- what a line with this first word says
unfoldable pub script_behind : List ℕ → List ℕ → Option ScriptLineValue
script_behind word rest =
    if bytes_eq word send_word then option_map script_sending (both word_of command_of rest)
    else if bytes_eq word cached_word then option_map asks (cached_of rest)
    else None

-- what a line of several words says
abbrev pub script_words : List ℕ → Option ScriptLineValue
script_words line = option_and_then (λ parts. script_behind parts.0 parts.1) (cut_of 32 line)

-- the value that the line says, if it says one
unfoldable pub script_value_of : List ℕ → Option ScriptLineValue
script_value_of line =
    if bytes_eq line wait_word then Some waits else if bytes_eq line close_word then Some closes else script_words line

-- what the line says, as the code reads it
abbrev pub script_said : ScriptSays → ScriptLineValue
script_said (Sends service command) = sends service.now (command_said command).0 (command_said command).1
script_said Waits = waits
script_said (Asks what) = asks (cached_said what)
script_said Closes = closes

-- ---- What it means

abbrev pub script_line : ScriptLineValue → ScriptLine
script_line (sends service command args) = Send service command (data_of args)
script_line waits = Wait
script_line (asks what) = Cached what
script_line closes = Close

-- what a line adds to a script: nothing where it is skipped, and else what it means; none where it says nothing
abbrev pub added_by : List ℕ → Option (List ScriptLine)
added_by line = if is_skipped line then Some [] else option_map (λ value. script_line value ∷ []) (script_value_of line)

-- some lines of a script before others, or before a bad line
abbrev pub before : List ScriptLine → Result (List ScriptLine) BadLine → Result (List ScriptLine) BadLine
before front (Ok more) = Ok (front ++ more)
before front (Err bad) = Err bad

-- what the line of this number adds, before what the later ones do
abbrev pub from_line : ℕ → Option (List ScriptLine) → Result (List ScriptLine) BadLine → Result (List ScriptLine) BadLine
from_line number None later = Err (record { line = number; what = Form })
from_line number (Some front) later = before front later

-- the script of some lines, of which the first has this number, or the first bad one
abbrev pub script_from : ℕ → List (List ℕ) → Result (List ScriptLine) BadLine
script_from number [] = Ok []
script_from number (line ∷ lines) = from_line number (added_by line) (script_from (number + 1) lines)

-- what a file says: its script, or its first bad line, counted from 1
abbrev pub script_of : List ℕ → Result (List ScriptLine) BadLine
script_of file = script_from 1 (lines_of file)

-- the line of this number is refused where it says nothing, for its form; or memory is wanting
abbrev pub RefusesLine : ℕ → Option (List ScriptLine) → TextRefusal → Type 0
RefusesLine number added (Bad line what) = (line ≡ number) × (what ≡ Form) × (added ≡ None)
RefusesLine number added NoMemory = Unit {0}

-- ---- The files of a script

-- the lines say the script: those that aren't skipped are the texts of some values, which it means
pub record SaysScript (lines : List (List ℕ)) (script : List ScriptLine) : Type 0 where
  pub values : List ScriptLineValue
  pub texts : kept_lines lines ≡ map script_spelling values
  pub values_are : AllByRecursion IsScriptLine values
  pub means : script ≡ map script_line values

-- the line of this number is the first bad one: those before it say a script, and it isn't skipped and is no value's text
pub record IsFirstBadOfScript (lines : List (List ℕ)) (number : ℕ) : Type 0 where
  pub front : List (List ℕ)
  pub script : List ScriptLine
  pub says : SaysScript front script
  pub line : List ℕ
  pub rest : List (List ℕ)
  pub parts : lines ≡ front ++ line ∷ rest
  pub place : number ≡ length front + 1
  pub kept : is_skipped line ≡ false
  pub none : (value : ScriptLineValue) → SaysInScript line value → ⊥

-- the file begins with lines that say a script, of which not all are skipped: only then is memory wanted
pub record ScriptWantsMemory (file : List ℕ) : Type 0 where
  pub front : List (List ℕ)
  pub script : List ScriptLine
  pub says : SaysScript front script
  pub rest : List (List ℕ)
  pub parts : lines_of file ≡ front ++ rest
  pub some : script ≢ []

-- a line that a script can have: the words of a command have no zero byte, and what is asked of the cache has its form
abbrev pub IsFit : ScriptLine → Type 0
IsFit (Send service name body) = HasNoZero service × HasNoZero name
IsFit Wait = Unit {0}
IsFit (Cached what) = IsAsked what
IsFit Close = Unit {0}

-- the refusal is for the form of a line, or want of memory
abbrev pub IsForm : TextRefusal → Type 0
IsForm (Bad line what) = what ≡ Form
IsForm NoMemory = Unit {0}

-- ---- The laws

-- the law: a value is read exactly where the line is its text
abbrev pub ReadsTheScriptLine : Type 0
ReadsTheScriptLine = (line : List ℕ) (value : ScriptLineValue) → (script_value_of line ≡ Some value) ↔ SaysInScript line value

-- the law: the script of a file is the one that its lines say
abbrev pub ReadsTheScript : Type 0
ReadsTheScript = (file : List ℕ) (script : List ScriptLine) → (script_of file ≡ Ok script) ↔ SaysScript (lines_of file) script

-- the law: a file is refused for its first bad line, and for the form of that line
abbrev pub RefusesTheScript : Type 0
RefusesTheScript =
    (file : List ℕ) (number : ℕ) (what : TextFault)
    → (script_of file ≡ Err (record { line = number; what = what })) ↔ (IsFirstBadOfScript (lines_of file) number × (what ≡ Form))

-- the law: the lines of a script that is read are those that a script can have
abbrev pub ScriptsAreFit : Type 0
ScriptsAreFit = (file : List ℕ) (script : List ScriptLine) → script_of file ≡ Ok script → AllByRecursion IsFit script
