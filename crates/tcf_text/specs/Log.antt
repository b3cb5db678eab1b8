-- How a client's log is shown.
use Rattle.std.specs.Prelude.{ℕ, ◌/◌, ◌%◌, ◌==◌, ◌||◌, ◌≡◌, Bool, true, List, [], ◌∷◌, ◌++◌, flat_map, Option, Some, None, if◌then◌else◌, nat_le, codes, decimal}
use Rattle.std.specs.Fmt.{digit_glyph}
use Rattle.std.specs.List.{slice_split}
use Rattle.cached_lines.specs.Asked.{context_word, state_word, register_word, properties_word, status_word, bytes_word}
use Rattle.cached_lines.specs.declared.what.CachedWhat.{CachedWhat}
use Rattle.cached_lines.specs.declared.what.CachedWhat.TheVariants as asked
use Rattle.tcf_text.specs.declared.log.EndWhy.{EndWhy}
use Rattle.tcf_text.specs.declared.log.EndWhy.TheVariants.{Own, Eos, Ended as ConnectionEnded, Protocol, Stream}
use Rattle.tcf_text.specs.declared.log.LogLine.{LogLine}
use Rattle.tcf_text.specs.declared.log.LogLine.TheVariants.{Sent, Refused, Hello, Event, Progress, Final, Unknown, Closed, Ended, Cached}
use Rattle.tcf_text.specs.declared.log.RefusedWhy.{RefusedWhy}
use Rattle.tcf_text.specs.declared.log.RefusedWhy.TheVariants.{Full, NotOpen, TooLong, Spent}
use Rattle.tcf_text.specs.declared.log.Showing.{Showing}
use Rattle.tcf_text.specs.declared.log.Showing.TheVariants.{Plain, Readable}

-- a byte that can't be shown as it is: a control byte or blank, `%`, or DEL
abbrev pub is_hidden : ℕ → Bool
is_hidden byte = nat_le byte 32 || byte == 37 || byte == 127

-- a hidden byte as `%` and two upper-case hexadecimal digits, any other as it is
abbrev pub shown_byte : ℕ → List ℕ
shown_byte byte = if is_hidden byte then 37 ∷ digit_glyph true (byte / 16) ∷ digit_glyph true (byte % 16) ∷ [] else byte ∷ []

-- a word or a part, byte by byte; the empty one is `-`
abbrev pub shown : List ℕ → List ℕ
shown [] = codes "-"
shown (byte ∷ bytes) = shown_byte byte ++ flat_map shown_byte bytes

-- a first byte that would make another word of the text is shown by its digits: `!`, which begins a rest, and a `-` that
-- stands alone, which is the empty word
abbrev pub front_byte : ℕ → List ℕ → List ℕ
front_byte byte [] = if byte == 45 then codes "%2D" else if byte == 33 then codes "%21" else shown_byte byte
front_byte byte (next ∷ bytes) = if byte == 33 then codes "%21" else shown_byte byte

-- a word that can be read back
abbrev pub readable : List ℕ → List ℕ
readable [] = codes "-"
readable (byte ∷ bytes) = front_byte byte bytes ++ flat_map shown_byte bytes

-- a word, in this way
abbrev pub word_shown : Showing → List ℕ → List ℕ
word_shown Plain word = shown word
word_shown Readable word = readable word

-- a word behind a blank
abbrev pub word_text : Showing → List ℕ → List ℕ
word_text how word = 32 ∷ word_shown how word

-- what stands behind the last zero of some data, where something does, behind a blank and `!`
abbrev pub rest_text : List ℕ → List ℕ
rest_text [] = []
rest_text (byte ∷ bytes) = codes " !" ++ shown (byte ∷ bytes)

-- the parts that a zero ends, and the rest that none ends
abbrev pub parts_text : Showing → List (List ℕ) → List ℕ
parts_text how [] = []
parts_text how (rest ∷ []) = rest_text rest
parts_text how (part ∷ next ∷ more) = word_text how part ++ parts_text how (next ∷ more)

-- data, cut at its zeros
abbrev pub args_text : Showing → List ℕ → List ℕ
args_text how body = parts_text how (slice_split (λ byte. byte == 0) body)

-- a mark behind a blank; `-` where there is none
abbrev pub mark_text : Option ℕ → List ℕ
mark_text None = codes " -"
mark_text (Some mark) = 32 ∷ decimal mark

unfoldable pub sent_word : List ℕ
sent_word = codes "sent"

unfoldable pub refused_front : List ℕ
refused_front = codes "refused "

unfoldable pub hello_word : List ℕ
hello_word = codes "hello"

unfoldable pub event_word : List ℕ
event_word = codes "event"

unfoldable pub progress_word : List ℕ
progress_word = codes "progress"

unfoldable pub result_word : List ℕ
result_word = codes "result"

unfoldable pub unknown_word : List ℕ
unknown_word = codes "unknown"

unfoldable pub closed_word : List ℕ
closed_word = codes "closed"

unfoldable pub end_front : List ℕ
end_front = codes "end "

unfoldable pub cached_front : List ℕ
cached_front = codes "cached "

unfoldable pub none_word : List ℕ
none_word = codes " none"

unfoldable pub refused_reason : RefusedWhy → List ℕ
refused_reason Full = codes "Full"
refused_reason NotOpen = codes "NotOpen"
refused_reason TooLong = codes "TooLong"
refused_reason Spent = codes "Spent"

unfoldable pub end_cause : EndWhy → List ℕ
end_cause Own = codes "own"
end_cause Eos = codes "eos"
end_cause ConnectionEnded = codes "ended"
end_cause Protocol = codes "protocol"
end_cause Stream = codes "stream"

-- a line's word and the number of a command
abbrev pub numbered : List ℕ → ℕ → List ℕ
numbered word number = word ++ 32 ∷ decimal number

-- a command, or an event, by its service and name, and its data
abbrev pub named_text : Showing → List ℕ → List ℕ → List ℕ → List ℕ
named_text how service name body = word_text how service ++ word_text how name ++ args_text how body

-- what was asked of the cache, word by word
abbrev pub asked_text : Showing → CachedWhat → List ℕ
asked_text how (asked.Context id) = context_word ++ word_text how id
asked_text how (asked.State id) = state_word ++ word_text how id
asked_text how (asked.Register id) = register_word ++ word_text how id
asked_text how (asked.Properties id) = properties_word ++ word_text how id
asked_text how (asked.Status id) = status_word ++ word_text how id
asked_text how (asked.Bytes id addr size) = bytes_word ++ word_text how id ++ 32 ∷ decimal addr ++ 32 ∷ decimal size

-- what the cache had, behind a blank
abbrev pub value_text : Option (List ℕ) → List ℕ
value_text None = none_word
value_text (Some value) = 32 ∷ value

-- a log line without its end
abbrev pub line_words : Showing → LogLine → List ℕ
line_words how (Sent number service name body) = numbered sent_word number ++ named_text how service name body
line_words how (Refused why) = refused_front ++ refused_reason why
line_words how (Hello mark body) = hello_word ++ mark_text mark ++ args_text how body
line_words how (Event mark service name body) = event_word ++ mark_text mark ++ named_text how service name body
line_words how (Progress number mark body) = numbered progress_word number ++ mark_text mark ++ args_text how body
line_words how (Final number mark body) = numbered result_word number ++ mark_text mark ++ args_text how body
line_words how (Unknown number mark) = numbered unknown_word number ++ mark_text mark
line_words how (Closed number) = numbered closed_word number
line_words how (Ended why) = end_front ++ end_cause why
line_words how (Cached what value) = cached_front ++ asked_text how what ++ value_text value

-- a log line, which byte 10 ends
abbrev pub line_text : Showing → LogLine → List ℕ
line_text how line = line_words how line ++ 10 ∷ []

-- log lines in order
abbrev pub lines_text : Showing → List LogLine → List ℕ
lines_text how lines = flat_map (line_text how) lines

-- a log as it is printed
abbrev pub log_text : List LogLine → List ℕ
log_text lines = lines_text Plain lines

-- a text that was added to, whose new part is not told
pub record Grows (before after : List ℕ) : Type 0 where
  pub part : List ℕ
  pub added : after ≡ before ++ part
