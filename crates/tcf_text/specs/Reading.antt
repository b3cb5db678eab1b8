-- How a line of a log is read, word by word, where its words are shown so that they can be read back.
use Rattle.std.specs.Prelude.{ℕ, ◌≡◌, ◌<◌, ◌≤◌, ◌^◌, true, List, [], ◌∷◌, Option, Some, None, IfSome, option_map, option_and_then, if◌then◌else◌, bytes_eq, codes}
use Rattle.std.specs.List.{AllByRecursion, join_with_byte, list_all}
use Rattle.tcf_values.specs.Number.{number_of}
use Rattle.line_words.specs.Words.{is_word, only_of, words_of}
use Rattle.cached_lines.specs.Asked.{IsProcess, context_word, state_word, register_word, properties_word, status_word, bytes_word}
use Rattle.cached_lines.specs.Reading.{process_of}
use Rattle.cached_lines.specs.declared.what.CachedWhat.{CachedWhat}
use Rattle.cached_lines.specs.declared.what.CachedWhat.TheVariants as asked
use Rattle.tcf_text.specs.declared.log.EndWhy.{EndWhy}
use Rattle.tcf_text.specs.declared.log.EndWhy.TheVariants.{Own, Eos, Ended as ConnectionEnded, Protocol, Stream}
use Rattle.tcf_text.specs.declared.log.LogLine.{LogLine}
use Rattle.tcf_text.specs.declared.log.LogLine.TheVariants.{Sent, Refused, Hello, Event, Progress, Final, Unknown, Closed, Ended, Cached}
use Rattle.tcf_text.specs.declared.log.RefusedWhy.{RefusedWhy}
use Rattle.tcf_text.specs.declared.log.RefusedWhy.TheVariants.{Full, NotOpen, TooLong, Spent}
use Rattle.tcf_text.specs.declared.log.Showing.TheVariants.{Readable}
use Rattle.tcf_text.specs.declared.said.Named.{Named}
use Rattle.tcf_text.specs.Log.{sent_word, hello_word, event_word, progress_word, result_word, unknown_word, closed_word, refused_reason, end_cause, line_words}
use Rattle.tcf_text.specs.Said.{AreShown, IsByte, data_said, long_number_of, mark_said, named_said, word_said}

unfoldable pub refused_word : List ℕ
refused_word = codes "refused"

unfoldable pub end_word : List ℕ
end_word = codes "end"

unfoldable pub cached_word : List ℕ
cached_word = codes "cached"

unfoldable pub none_value : List ℕ
none_value = codes "none"

-- ---- What stands behind a line's first word

-- N SERVICE COMMAND ARGS
abbrev pub sent_said : List (List ℕ) → Option LogLine
sent_said [] = None
sent_said (number ∷ words) =
    option_and_then (λ n. option_map (λ (c : Named). Sent n c.service c.name c.body) (named_said words)) (long_number_of number)

-- POS ARGS
abbrev pub hello_said : List (List ℕ) → Option LogLine
hello_said [] = None
hello_said (mark ∷ args) = option_and_then (λ m. option_map (Hello m) (data_said args)) (mark_said mark)

-- POS SERVICE EVENT ARGS
abbrev pub event_said : List (List ℕ) → Option LogLine
event_said [] = None
event_said (mark ∷ words) =
    option_and_then (λ m. option_map (λ (e : Named). Event m e.service e.name e.body) (named_said words)) (mark_said mark)

-- N POS ARGS
abbrev pub answer_said : (ℕ → Option ℕ → List ℕ → LogLine) → List (List ℕ) → Option LogLine
answer_said made [] = None
answer_said made (number ∷ []) = None
answer_said made (number ∷ mark ∷ args) =
    option_and_then (λ n. option_and_then (λ m. option_map (made n m) (data_said args)) (mark_said mark)) (long_number_of number)

-- N POS
abbrev pub unknown_said : List (List ℕ) → Option LogLine
unknown_said [] = None
unknown_said (number ∷ words) =
    option_and_then (λ mark. option_and_then (λ n. option_map (Unknown n) (mark_said mark)) (long_number_of number)) (only_of words)

-- N
abbrev pub closed_said : List (List ℕ) → Option LogLine
closed_said words = option_and_then (λ number. option_map Closed (long_number_of number)) (only_of words)

unfoldable pub reason_said : List ℕ → Option RefusedWhy
reason_said word =
    if bytes_eq word (refused_reason Full) then Some Full
    else if bytes_eq word (refused_reason NotOpen) then Some NotOpen
    else if bytes_eq word (refused_reason TooLong) then Some TooLong
    else if bytes_eq word (refused_reason Spent) then Some Spent
    else None

-- REASON
abbrev pub refused_said : List (List ℕ) → Option LogLine
refused_said words = option_and_then (λ word. option_map Refused (reason_said word)) (only_of words)

unfoldable pub cause_said : List ℕ → Option EndWhy
cause_said word =
    if bytes_eq word (end_cause Own) then Some Own
    else if bytes_eq word (end_cause Eos) then Some Eos
    else if bytes_eq word (end_cause ConnectionEnded) then Some ConnectionEnded
    else if bytes_eq word (end_cause Protocol) then Some Protocol
    else if bytes_eq word (end_cause Stream) then Some Stream
    else None

-- CAUSE
abbrev pub end_said : List (List ℕ) → Option LogLine
end_said words = option_and_then (λ word. option_map Ended (cause_said word)) (only_of words)

-- ---- What the cache was asked, and what it had

-- ID, of this kind
unfoldable pub kind_said : List ℕ → List ℕ → Option CachedWhat
kind_said kind id =
    if bytes_eq kind context_word then Some (asked.Context id)
    else if bytes_eq kind state_word then Some (asked.State id)
    else if bytes_eq kind register_word then Some (asked.Register id)
    else if bytes_eq kind properties_word then Some (asked.Properties id)
    else if bytes_eq kind status_word then Some (asked.Status id)
    else None

-- the value as it stands: one word or more, of which `none` alone says that there is none
unfoldable pub value_said : List (List ℕ) → Option (Option (List ℕ))
value_said [] = None
value_said (word ∷ words) =
    let text = join_with_byte 32 (word ∷ words) in
    if bytes_eq text none_value then Some None else if list_all is_word (word ∷ words) then Some (Some text) else None

-- ID VALUE
abbrev pub asked_said : List ℕ → List (List ℕ) → Option LogLine
asked_said kind [] = None
asked_said kind (id ∷ words) =
    option_and_then (λ i. option_and_then (λ what. option_map (Cached what) (value_said words)) (kind_said kind i)) (word_said id)

-- ID ADDR SIZE, where the ID is a process's, and the words behind it
abbrev pub range_said : List (List ℕ) → Option ((List ℕ × (ℕ × ℕ)) × List (List ℕ))
range_said [] = None
range_said (id ∷ []) = None
range_said (id ∷ addr ∷ []) = None
range_said (id ∷ addr ∷ size ∷ words) =
    option_and_then (λ i. option_and_then (λ a. option_map (λ s. ((i, (a, s)), words)) (number_of 1 65536 size)) (number_of 0 65535 addr)) (process_of id)

-- ID ADDR SIZE VALUE
abbrev pub bytes_said : List (List ℕ) → Option LogLine
bytes_said words = option_and_then (λ r. option_map (Cached (asked.Bytes r.0.0 r.0.1.0 r.0.1.1)) (value_said r.1)) (range_said words)

-- KIND ..
abbrev pub cached_said : List (List ℕ) → Option LogLine
cached_said [] = None
cached_said (kind ∷ words) = if bytes_eq kind bytes_word then bytes_said words else asked_said kind words

-- ---- A line

-- what answers a command, or tells of it, behind this first word
unfoldable pub answer_behind : List ℕ → List (List ℕ) → Option LogLine
answer_behind word words =
    if bytes_eq word progress_word then answer_said Progress words
    else if bytes_eq word result_word then answer_said Final words
    else if bytes_eq word unknown_word then unknown_said words
    else if bytes_eq word closed_word then closed_said words
    else None

-- the line behind this first word
unfoldable pub line_behind : List ℕ → List (List ℕ) → Option LogLine
line_behind word words =
    if bytes_eq word sent_word then sent_said words
    else if bytes_eq word refused_word then refused_said words
    else if bytes_eq word hello_word then hello_said words
    else if bytes_eq word event_word then event_said words
    else if bytes_eq word end_word then end_said words
    else if bytes_eq word cached_word then cached_said words
    else answer_behind word words

abbrev pub line_in : List (List ℕ) → Option LogLine
line_in [] = None
line_in (word ∷ words) = line_behind word words

-- the line of a log that the text says, if it says one
abbrev pub line_of : List ℕ → Option LogLine
line_of text = line_in (words_of text)

-- ---- What is written is read

abbrev pub IsLong : ℕ → Type 0
IsLong n = n < 2 ^ 64

-- words that single blanks separate, which don't say that there is none
abbrev pub IsValue : List ℕ → Type 0
IsValue value = (list_all is_word (words_of value) ≡ true) × (value ≡ none_value → ⊥)

-- what was asked, by an ID without a zero byte; of bytes by a process's
abbrev pub CanBeAsked : CachedWhat → Type 0
CanBeAsked (asked.Bytes id addr size) = IsProcess id × (addr ≤ 65535) × (1 ≤ size) × (size ≤ 65536)
CanBeAsked (asked.Context id) = AreShown id
CanBeAsked (asked.State id) = AreShown id
CanBeAsked (asked.Register id) = AreShown id
CanBeAsked (asked.Properties id) = AreShown id
CanBeAsked (asked.Status id) = AreShown id

-- a line whose numbers are below 2^64, whose words have no zero byte, and whose data are bytes
abbrev pub CanBeRead : LogLine → Type 0
CanBeRead (Sent number service name body) = IsLong number × AreShown service × AreShown name × AllByRecursion IsByte body
CanBeRead (Refused why) = Unit {0}
CanBeRead (Hello mark body) = IfSome mark IsLong × AllByRecursion IsByte body
CanBeRead (Event mark service name body) = IfSome mark IsLong × AreShown service × AreShown name × AllByRecursion IsByte body
CanBeRead (Progress number mark body) = IsLong number × IfSome mark IsLong × AllByRecursion IsByte body
CanBeRead (Final number mark body) = IsLong number × IfSome mark IsLong × AllByRecursion IsByte body
CanBeRead (Unknown number mark) = IsLong number × IfSome mark IsLong
CanBeRead (Closed number) = IsLong number
CanBeRead (Ended why) = Unit {0}
CanBeRead (Cached what value) = CanBeAsked what × IfSome value IsValue

-- the law: a line that is written so that it can be read back is read
abbrev pub LinesAreReadBack : Type 0
LinesAreReadBack = (line : LogLine) → CanBeRead line → line_of (line_words Readable line) ≡ Some line
