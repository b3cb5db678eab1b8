-- How one line of a schedule is read, word by word.
use Rattle.std.specs.Prelude.{ℕ, ◌≡◌, ◌↔◌, Bool, true, false, List, [], ◌∷◌, Option, Some, None, option_map, option_and_then, if◌then◌else◌, bytes_eq}
use Rattle.std.specs.List.{list_all}
use Rattle.tcf_values.specs.Cut.{cut_of}
use Rattle.tcf_values.specs.Ids.{context_of}
use Rattle.tcf_values.specs.Number.{number_of}
use Rattle.tcf_values.specs.declared.ids.ContextId.{ContextId}
use Rattle.tcf_values.specs.declared.ids.ContextId.TheVariants.{Process, Thread}
use Rattle.line_words.specs.Words.{is_word, both, passing, word_of}
use Rattle.cached_lines.specs.declared.what.CachedWhat.{CachedWhat}
use Rattle.cached_lines.specs.Reading.{cached_of}
use Rattle.tcf_schedules.specs.Words.{words_of, is_name, is_numeral, is_hex_word}
use Rattle.tcf_schedules.specs.Line.{PlainStep, opens, sends, delivers, turns, ticks, closes, cuts, asks, LineStep, once, rounds, times, LineHead, image, chain, LineValue, head, step, Says, image_word, chain_word, open_word, send_word, deliver_word, turn_word, tick_word, close_word, cut_word, cached_word, rounds_word, times_word, up_word, down_word}

unfoldable pub name_of : List ℕ → Option (List ℕ)
name_of text = passing is_name text

unfoldable pub numeral_of : List ℕ → Option (List ℕ)
numeral_of text = passing is_numeral text

unfoldable pub hex_of : List ℕ → Option (List ℕ)
hex_of text = passing is_hex_word text

unfoldable pub direction_of : List ℕ → Option Bool
direction_of text = if bytes_eq text up_word then Some true else if bytes_eq text down_word then Some false else None

abbrev pub only_thread : ContextId → Option ContextId
only_thread (Process process) = None
only_thread (Thread process thread) = Some (Thread process thread)

-- P1.1
unfoldable pub thread_of : List ℕ → Option ContextId
thread_of text = option_and_then only_thread (context_of text)

abbrev pub command_in : List (List ℕ) → Option (List ℕ × List (List ℕ))
command_in [] = None
command_in (command ∷ args) = Some (command, args)

-- COMMAND ARG ..
unfoldable pub command_of : List ℕ → Option (List ℕ × List (List ℕ))
command_of text = if list_all is_word (words_of text) then command_in (words_of text) else None

-- NAME SERVICE COMMAND ARG ..
abbrev pub sending_of : List ℕ → Option (List ℕ × (List ℕ × (List ℕ × List (List ℕ))))
sending_of text = both name_of (both word_of command_of) text

-- NAME HOP up|down COUNT
abbrev pub delivery_of : List ℕ → Option (List ℕ × (List ℕ × (Bool × ℕ)))
delivery_of text = both name_of (both numeral_of (both direction_of (number_of 1 65536))) text

-- NAME NODE up|down
abbrev pub turning_of : List ℕ → Option (List ℕ × (List ℕ × Bool))
turning_of text = both name_of (both numeral_of direction_of) text

-- NAME HOP
abbrev pub cutting_of : List ℕ → Option (List ℕ × List ℕ)
cutting_of text = both name_of numeral_of text

-- NAME KIND ..
abbrev pub asking_of : List ℕ → Option (List ℕ × CachedWhat)
asking_of text = both name_of cached_of text

-- NAME HEX
abbrev pub imaging_of : List ℕ → Option (List ℕ × List ℕ)
imaging_of text = both name_of hex_of text

-- NAME 0
abbrev pub chaining_of : List ℕ → Option (List ℕ × ℕ)
chaining_of text = both name_of (number_of 0 16) text

abbrev pub sending : List ℕ × (List ℕ × (List ℕ × List (List ℕ))) → PlainStep
sending s = sends s.0 s.1.0 s.1.1.0 s.1.1.1

abbrev pub delivering : List ℕ × (List ℕ × (Bool × ℕ)) → PlainStep
delivering d = delivers d.0 d.1.0 d.1.1.0 d.1.1.1

abbrev pub turning : List ℕ × (List ℕ × Bool) → PlainStep
turning t = turns t.0 t.1.0 t.1.1

abbrev pub cutting : List ℕ × List ℕ → PlainStep
cutting c = cuts c.0 c.1

abbrev pub asking : List ℕ × CachedWhat → PlainStep
asking a = asks a.0 a.1

abbrev pub imaging : List ℕ × List ℕ → LineHead
imaging i = image i.0 i.1

abbrev pub chaining : List ℕ × ℕ → LineHead
chaining c = chain c.0 c.1

-- the step of a text with this first word, but for rounds and repetitions
unfoldable pub plain_behind : List ℕ → List ℕ → Option PlainStep
plain_behind word rest =
    if bytes_eq word open_word then option_map opens (name_of rest)
    else if bytes_eq word send_word then option_map sending (sending_of rest)
    else if bytes_eq word deliver_word then option_map delivering (delivery_of rest)
    else if bytes_eq word turn_word then option_map turning (turning_of rest)
    else if bytes_eq word tick_word then option_map ticks (thread_of rest)
    else if bytes_eq word close_word then option_map closes (name_of rest)
    else if bytes_eq word cut_word then option_map cutting (cutting_of rest)
    else if bytes_eq word cached_word then option_map asking (asking_of rest)
    else None

abbrev pub plain_of : List ℕ → Option PlainStep
plain_of text = option_and_then (λ parts. plain_behind parts.0 parts.1) (cut_of 32 text)

-- N STEP
abbrev pub repetition_of : List ℕ → Option (ℕ × PlainStep)
repetition_of text = both (number_of 1 10000) plain_of text

abbrev pub repeating : ℕ × PlainStep → LineStep
repeating r = times r.0 r.1

-- the step of a line with this first word
unfoldable pub step_behind : List ℕ → List ℕ → Option LineStep
step_behind word rest =
    if bytes_eq word rounds_word then option_map rounds (number_of 1 10000 rest)
    else if bytes_eq word times_word then option_map repeating (repetition_of rest)
    else option_map once (plain_behind word rest)

-- what a line with this first word says
unfoldable pub value_behind : List ℕ → List ℕ → Option LineValue
value_behind word rest =
    if bytes_eq word image_word then option_map (λ i. head (imaging i)) (imaging_of rest)
    else if bytes_eq word chain_word then option_map (λ c. head (chaining c)) (chaining_of rest)
    else option_map step (step_behind word rest)

-- the value that the line says, if it says one
abbrev pub value_of : List ℕ → Option LineValue
value_of line = option_and_then (λ parts. value_behind parts.0 parts.1) (cut_of 32 line)

-- the law: a value is read exactly where the line is its text
abbrev pub ReadsTheText : Type 0
ReadsTheText = (line : List ℕ) (value : LineValue) → (value_of line ≡ Some value) ↔ Says line value
