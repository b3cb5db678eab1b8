-- What a file of lines says that is a journal: the images of a target, the inputs of its history, and one client's log.
use Rattle.std.specs.Prelude.{ℕ, ◌≡◌, ◌+◌, ◌++◌, Bool, false, List, [], ◌∷◌, length, codes, Option, Some, None, option_map, option_and_then, Result, Ok, Err, if◌then◌else◌, bytes_eq, nat_lt, IsSome, ◌⊎◌}
use Rattle.std.specs.List.{list_any}
use Rattle.tcf_values.specs.Cut.{cut_of}
use Rattle.target_contexts.specs.declared.process.Image.{Image}
use Rattle.target_hub.specs.declared.input.Input.{Input}
use Rattle.tcf_schedules.specs.Line.{image_word}
use Rattle.tcf_schedules.specs.Reading.{imaging_of}
use Rattle.tcf_schedules.specs.Refusal.{BadLine}
use Rattle.tcf_schedules.specs.Schedule.{is_skipped, lines_of}
use Rattle.tcf_schedules.specs.Words.{bytes_of}
use Rattle.tcf_schedules.specs.declared.schedule.TextFault.{TextFault}
use Rattle.tcf_schedules.specs.declared.schedule.TextFault.TheVariants.{Form, Late, Repeat}
use Rattle.tcf_text.specs.Reading.{line_of}
use Rattle.tcf_text.specs.declared.log.LogLine.{LogLine}
use Rattle.journal_text.specs.Inputs.{input_of}
use Rattle.journal_text.specs.declared.journal.Journal.{Journal}

-- ---- What a line says

-- a line that stands before the log: an image by its name and the digits of its bytes, an input, or `log`, which ends them
pub data HeadLine : Type 0 where
  image : (name digits : List ℕ) → HeadLine
  an_input : (input : Input) → HeadLine
  the_log : HeadLine

unfoldable pub log_word : List ℕ
log_word = codes "log"

abbrev pub imaging : List ℕ × List ℕ → HeadLine
imaging i = image i.0 i.1

-- `image NAME HEX`
abbrev pub image_behind : List ℕ → List ℕ → Option HeadLine
image_behind word rest = if bytes_eq word image_word then option_map imaging (imaging_of rest) else None

abbrev pub image_line : List ℕ → Option HeadLine
image_line text = option_and_then (λ parts. image_behind parts.0 parts.1) (cut_of 32 text)

abbrev pub or_input : Option HeadLine → Option Input → Option HeadLine
or_input (Some line) input = Some line
or_input None input = option_map an_input input

-- what the text says, if it is such a line
unfoldable pub head_of : List ℕ → Option HeadLine
head_of text = if bytes_eq text log_word then Some the_log else or_input (image_line text) (input_of text)

-- ---- What a line adds

-- what the lines so far said; there are lines of the log from `log` on
pub record SoFar : Type 0 where
  pub images : List Image
  pub inputs : List Input
  pub lines : Option (List LogLine)

abbrev pub nothing : SoFar
nothing = record { images = []; inputs = []; lines = None }

abbrev pub image_said : List ℕ → List ℕ → Image
image_said name digits = record { name = name; bytes = bytes_of digits }

abbrev pub has_name : List ℕ → List Image → Bool
has_name name images = list_any (λ (i : Image). bytes_eq i.name name) images

abbrev pub and_image : List ℕ → List ℕ → SoFar → SoFar
and_image name digits s = record s { images = s.images ++ image_said name digits ∷ [] }

abbrev pub and_input : Input → SoFar → SoFar
and_input input s = record s { inputs = s.inputs ++ input ∷ [] }

abbrev pub with_lines : List LogLine → SoFar → SoFar
with_lines lines s = record s { lines = Some lines }

-- the images come first, and have different names
abbrev pub with_image : List ℕ → List ℕ → SoFar → Result SoFar TextFault
with_image name digits s =
    if nat_lt 0 (length s.inputs) then Err Late else if has_name name s.images then Err Repeat else Ok (and_image name digits s)

-- before `log`
abbrev pub with_head : Option HeadLine → SoFar → Result SoFar TextFault
with_head None s = Err Form
with_head (Some (image name digits)) s = with_image name digits s
with_head (Some (an_input input)) s = Ok (and_input input s)
with_head (Some the_log) s = Ok (with_lines [] s)

-- behind `log` an image and an input are late; a second `log` says nothing there
abbrev pub head_fault : Option HeadLine → TextFault
head_fault (Some (image name digits)) = Late
head_fault (Some (an_input input)) = Late
head_fault (Some the_log) = Form
head_fault None = Form

abbrev pub and_log_line : List LogLine → Option LogLine → Option HeadLine → Result (List LogLine) TextFault
and_log_line lines (Some line) head = Ok (lines ++ line ∷ [])
and_log_line lines None head = Err (head_fault head)

abbrev pub with_more : SoFar → Result (List LogLine) TextFault → Result SoFar TextFault
with_more s (Ok lines) = Ok (with_lines lines s)
with_more s (Err what) = Err what

abbrev pub with_text : Option (List LogLine) → List ℕ → SoFar → Result SoFar TextFault
with_text None text s = with_head (head_of text) s
with_text (Some lines) text s = with_more s (and_log_line lines (line_of text) (head_of text))

-- what was said after one more line, or what is wrong with that
abbrev pub after_line : SoFar → List ℕ → Result SoFar TextFault
after_line s line = if is_skipped line then Ok s else with_text s.lines line s

-- ---- The file

-- the outcome at a line of this number
abbrev pub at_line : {A : Type 0} → ℕ → Result A TextFault → Result A BadLine
at_line number (Err what) = Err (record { line = number; what = what })
at_line number (Ok s) = Ok s

-- what follows, where no line is bad yet
abbrev pub going_on : {A B : Type 0} → (A → Result B BadLine) → Result A BadLine → Result B BadLine
going_on next (Ok s) = next s
going_on next (Err bad) = Err bad

-- what some lines said, of which the first has this number, or the first bad one
abbrev pub after_lines : ℕ → SoFar → List (List ℕ) → Result SoFar BadLine
after_lines number s [] = Ok s
after_lines number s (line ∷ lines) = going_on (λ next. after_lines (number + 1) next lines) (at_line number (after_line s line))

-- a file without `log` lacks it at the line behind the last one
abbrev pub whole : SoFar → Option (List LogLine) → Result Journal TextFault
whole s None = Err Form
whole s (Some lines) = Ok (record { images = s.images; inputs = s.inputs; lines = lines })

-- what a file says: its journal, or its first bad line, counted from 1
abbrev pub journal_of : List ℕ → Result Journal BadLine
journal_of file =
    going_on (λ (s : SoFar). at_line (length (lines_of file) + 1) (whole s s.lines)) (after_lines 1 nothing (lines_of file))

-- ---- Want of memory

-- the next line isn't skipped
abbrev pub IsKeptNext : List (List ℕ) → Type 0
IsKeptNext [] = ⊥
IsKeptNext (line ∷ lines) = is_skipped line ≡ false

-- the file begins with lines that are good, and behind them stands one that isn't skipped, or `log` has come: only then is
-- memory wanted
pub record JournalWantsMemory (file : List ℕ) : Type 0 where
  pub front : List (List ℕ)
  pub rest : List (List ℕ)
  pub parts : lines_of file ≡ front ++ rest
  pub said : SoFar
  pub good : after_lines 1 nothing front ≡ Ok said
  pub next : IsKeptNext rest ⊎ IsSome said.lines
