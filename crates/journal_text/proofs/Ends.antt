-- No line of a journal has the byte that ends one.
use Rattle.std.proofs.Common.{◌≡◌, ℕ, ◌<◌, ◌+◌, ◌^◌, ◌/◌, ◌%◌, ◌==◌, Bool, true, false, not, cond, List, [], ◌∷◌, ◌++◌, refl, sym, ◌∙◌, ap, arith, subst, inl, inr}
use Rattle.std.specs.Prelude.{Option, Some, None, IfSome, codes, decimal, flat_map, nat_lt}
use Rattle.std.specs.Char.{is_ascii_alphanumeric}
use Rattle.std.specs.Fmt.{digit_glyph}
use Rattle.std.specs.List.{AllByRecursion, join_with_byte, list_all, slice_split}
use Rattle.std.proofs.lemmas.Bool.{and_parts, cases_Bool, cond-true, cond-false, false≢true}
use Rattle.std.proofs.lemmas.Fmt.{decimal_is_IsNumeral}
use Rattle.std.proofs.lemmas.List.Splits.{join_with_byte-slice_split}
use Rattle.std.proofs.lemmas.Str.Parse.{digit_at}
use Rattle.tcf_values.specs.Cut.{Lacks}
use Rattle.tcf_values.specs.CutLaws.{lacks_by_index}
use Rattle.tcf_values.specs.Spelling.{context_spelling}
use Rattle.tcf_values.specs.declared.ids.ContextId.{ContextId}
use Rattle.tcf_values.specs.declared.ids.ContextId.TheVariants.{Process, Thread}
use Rattle.line_words.specs.Words.{is_inside, is_word, words_of}
use Rattle.cached_lines.specs.Asked.{bytes_word, context_word, properties_word, register_word, state_word, status_word}
use Rattle.cached_lines.specs.declared.what.CachedWhat.{CachedWhat}
use Rattle.cached_lines.specs.declared.what.CachedWhat.TheVariants as asked
use Rattle.command_tables.specs.Canonical.{body_of}
use Rattle.command_tables.specs.declared.reading.Reading.TheVariants as readings
use Rattle.hex.specs.Hex.{encode_lower}
use Rattle.target_contexts.specs.declared.process.Image.{Image}
use Rattle.target_hub.specs.declared.input.Input.{Input}
use Rattle.target_hub.specs.declared.input.Input.TheVariants.{Opened, Executed, Ticked, Closed}
use Rattle.tcf_schedules.specs.Line.{image_word}
use Rattle.tcf_schedules.specs.Plan.{IsThread}
use Rattle.tcf_schedules.specs.Words.{is_low_hex}
use Rattle.tcf_text.specs.declared.log.EndWhy.{EndWhy}
use Rattle.tcf_text.specs.declared.log.EndWhy.TheVariants.{Own, Eos, Ended as ConnectionEnded, Protocol, Stream}
use Rattle.tcf_text.specs.declared.log.LogLine.{LogLine}
use Rattle.tcf_text.specs.declared.log.LogLine.TheVariants.{Sent, Refused, Hello, Event, Progress, Final, Unknown, Closed as WasClosed, Ended, Cached}
use Rattle.tcf_text.specs.declared.log.RefusedWhy.{RefusedWhy}
use Rattle.tcf_text.specs.declared.log.RefusedWhy.TheVariants.{Full, NotOpen, TooLong, Spent}
use Rattle.tcf_text.specs.declared.log.Showing.TheVariants.{Readable}
use Rattle.tcf_text.specs.Log.{args_text, asked_text, cached_front, closed_word, end_cause, end_front, event_word, front_byte, hello_word, is_hidden, line_words, mark_text, named_text, none_word, numbered, parts_text, progress_word, readable, refused_front, refused_reason, rest_text, result_word, sent_word, shown_byte, unknown_word, value_text, word_text}
use Rattle.tcf_text.specs.Reading.{CanBeAsked, CanBeRead, IsLong, IsValue}
use Rattle.tcf_text.specs.Said.{IsByte}
use Rattle.journal_text.specs.Inputs.{InputIsRead, bad_word, known_word, opened_word, ticked_word, closed_word as shut_word, unknown_word as unmade_word}
use Rattle.journal_text.specs.Written.{IsImage, IsInput, hex_text, input_words, names_text}
use Rattle.journal_text.proofs.Codes.{code_small}
use Rattle.journal_text.proofs.HexBack.{all_low}

-- ---- Texts

both : (a b : List ℕ) → Lacks 10 a → Lacks 10 b → Lacks 10 (a ++ b)
both [] b one other = other
both (x ∷ a) b one other = (one.0, both a b one.1 other)

-- a text of bytes that pass a test, which byte 10 doesn't
all_pass : (test : ℕ → Bool) → test 10 ≡ false → (text : List ℕ) → list_all test text ≡ true → Lacks 10 text
all_pass test fails [] all = tt
all_pass test fails (b ∷ bs) all =
    let parts = and_parts (test b) (list_all test bs) all in
    ((λ is. false≢true (sym fails ∙ subst (λ x. test x ≡ true) is parts.0)), all_pass test fails bs parts.1)

written : (text : List ℕ) → list_all (λ b. not (b == 10)) text ≡ true → Lacks 10 text
written text all = all_pass (λ b. not (b == 10)) refl text all

blank : ◌≡◌ {A = ℕ} 32 10 → ⊥
blank is = omega arith

-- ---- Words

digits : (n : ℕ) → n < 2 ^ 64 → Lacks 10 (decimal n)
digits n wide =
    let numeral = (decimal_is_IsNumeral n wide).0 in
    lacks_by_index 10 (decimal n) (λ k below is. let within = digit_at (decimal n) k numeral.1 below in omega (arith, within.0))

glyph : (digit : ℕ) → digit_glyph true digit ≡ 10 → ⊥
glyph digit is =
    elim (cases_Bool (nat_lt digit 10)) [
      | inl e ↦ let at : 48 + digit ≡ 10 = sym (cond-true (nat_lt digit 10) (48 + digit) (55 + digit) e) ∙ is in omega arith
      | inr e ↦ let at : 55 + digit ≡ 10 = sym (cond-false (nat_lt digit 10) (48 + digit) (55 + digit) e) ∙ is in omega arith
    ]

percent : ◌≡◌ {A = ℕ} 37 10 → ⊥
percent is = omega arith

shown : (byte : ℕ) → Lacks 10 (shown_byte byte)
shown byte =
    elim (cases_Bool (is_hidden byte)) [
      | inl e ↦ subst (Lacks 10) (sym (cond-true (is_hidden byte) _ (byte ∷ []) e)) (percent, (glyph (byte / 16), (glyph (byte % 16), tt)))
      | inr e ↦ subst (Lacks 10) (sym (cond-false (is_hidden byte) _ (byte ∷ []) e)) ((λ is. false≢true (sym e ∙ ap is_hidden is)), tt)
    ]

all_shown : (bytes : List ℕ) → Lacks 10 (flat_map shown_byte bytes)
all_shown [] = tt
all_shown (byte ∷ bytes) = both (shown_byte byte) (flat_map shown_byte bytes) (shown byte) (all_shown bytes)

choice : (flag : Bool) (a b : List ℕ) → Lacks 10 a → Lacks 10 b → Lacks 10 (cond flag a b)
choice true a b one other = one
choice false a b one other = other

front : (byte : ℕ) (bytes : List ℕ) → Lacks 10 (front_byte byte bytes)
front byte [] = choice (byte == 45) _ _ (written (codes "%2D") refl) (choice (byte == 33) _ _ (written (codes "%21") refl) (shown byte))
front byte (next ∷ bytes) = choice (byte == 33) _ _ (written (codes "%21") refl) (shown byte)

word : (w : List ℕ) → Lacks 10 (readable w)
word [] = written (codes "-") refl
word (byte ∷ bytes) = both (front_byte byte bytes) (flat_map shown_byte bytes) (front byte bytes) (all_shown bytes)

behind_blank : (w : List ℕ) → Lacks 10 (word_text Readable w)
behind_blank w = (blank, word w)

number : (n : ℕ) → n < 2 ^ 64 → Lacks 10 (32 ∷ decimal n)
number n wide = (blank, digits n wide)

begun : (w : List ℕ) (n : ℕ) → Lacks 10 w → n < 2 ^ 64 → Lacks 10 (numbered w n)
begun w n one wide = both w (32 ∷ decimal n) one (number n wide)

-- ---- Data

exclaimed : ◌≡◌ {A = ℕ} 33 10 → ⊥
exclaimed is = omega arith

rest_ends : (rest : List ℕ) → Lacks 10 (rest_text rest)
rest_ends [] = tt
rest_ends (byte ∷ bytes) = (blank, (exclaimed, all_shown (byte ∷ bytes)))

parts_end : (parts : List (List ℕ)) → Lacks 10 (parts_text Readable parts)
parts_end [] = tt
parts_end (rest ∷ []) = rest_ends rest
parts_end (part ∷ next ∷ more) = both (word_text Readable part) (parts_text Readable (next ∷ more)) (behind_blank part) (parts_end (next ∷ more))

args : (body : List ℕ) → Lacks 10 (args_text Readable body)
args body = parts_end (slice_split (λ b. b == 0) body)

names : (service name : List ℕ) → Lacks 10 (names_text service name)
names service name = both (word_text Readable service) (word_text Readable name) (behind_blank service) (behind_blank name)

named : (service name body : List ℕ) → Lacks 10 (named_text Readable service name body)
named service name body = both (names_text service name) (args_text Readable body) (names service name) (args body)

mark_ends : (mark : Option ℕ) → IfSome mark IsLong → Lacks 10 (mark_text mark)
mark_ends None long = written (codes " -") refl
mark_ends (Some n) long = number n long

-- ---- The lines of a log

joined : (words : List (List ℕ)) → list_all is_word words ≡ true → Lacks 10 (join_with_byte 32 words)
joined [] all = tt
joined (w ∷ []) all = all_pass is_inside refl w (and_parts _ _ (and_parts (is_word w) true all).0).1
joined (w ∷ next ∷ more) all =
    let parts = and_parts (is_word w) (list_all is_word (next ∷ more)) all in
    both w (32 ∷ join_with_byte 32 (next ∷ more)) (all_pass is_inside refl w (and_parts _ _ parts.0).1) (blank, joined (next ∷ more) parts.1)

value_ends : (value : Option (List ℕ)) → IfSome value IsValue → Lacks 10 (value_text value)
unfolding none_word
value_ends None good = written none_word refl
value_ends (Some value) good = (blank, subst (Lacks 10) (join_with_byte-slice_split 32 value) (joined (words_of value) good.0))

kind : (w id : List ℕ) → Lacks 10 w → Lacks 10 (w ++ word_text Readable id)
kind w id one = both w (word_text Readable id) one (behind_blank id)

asked_ends : (what : CachedWhat) → CanBeAsked what → Lacks 10 (asked_text Readable what)
unfolding context_word state_word register_word properties_word status_word bytes_word
asked_ends (asked.Context id) can = kind context_word id (written context_word refl)
asked_ends (asked.State id) can = kind state_word id (written state_word refl)
asked_ends (asked.Register id) can = kind register_word id (written register_word refl)
asked_ends (asked.Properties id) can = kind properties_word id (written properties_word refl)
asked_ends (asked.Status id) can = kind status_word id (written status_word refl)
asked_ends (asked.Bytes id addr size) can =
    both (bytes_word ++ word_text Readable id ++ 32 ∷ decimal addr) (32 ∷ decimal size)
    (both (bytes_word ++ word_text Readable id) (32 ∷ decimal addr) (kind bytes_word id (written bytes_word refl)) (number addr (omega (arith, can.1)))) (number size (omega (arith, can.3)))

answer : (w : List ℕ) (n : ℕ) (mark : Option ℕ) (body : List ℕ) → Lacks 10 w → IsLong n → IfSome mark IsLong → Lacks 10 (numbered w n ++ mark_text mark ++ args_text Readable body)
answer w n mark body one long marked =
    both (numbered w n ++ mark_text mark) (args_text Readable body) (both (numbered w n) (mark_text mark) (begun w n one long) (mark_ends mark marked)) (args body)

refused_ends : (why : RefusedWhy) → Lacks 10 (refused_front ++ refused_reason why)
unfolding refused_front refused_reason
refused_ends Full = written (refused_front ++ refused_reason Full) refl
refused_ends NotOpen = written (refused_front ++ refused_reason NotOpen) refl
refused_ends TooLong = written (refused_front ++ refused_reason TooLong) refl
refused_ends Spent = written (refused_front ++ refused_reason Spent) refl

ended_ends : (why : EndWhy) → Lacks 10 (end_front ++ end_cause why)
unfolding end_front end_cause
ended_ends Own = written (end_front ++ end_cause Own) refl
ended_ends Eos = written (end_front ++ end_cause Eos) refl
ended_ends ConnectionEnded = written (end_front ++ end_cause ConnectionEnded) refl
ended_ends Protocol = written (end_front ++ end_cause Protocol) refl
ended_ends Stream = written (end_front ++ end_cause Stream) refl

pub line_ends : (line : LogLine) → CanBeRead line → Lacks 10 (line_words Readable line)
unfolding sent_word hello_word event_word progress_word result_word unknown_word closed_word cached_front
line_ends (Sent n service name body) can =
    both (numbered sent_word n) (named_text Readable service name body) (begun sent_word n (written sent_word refl) can.0) (named service name body)
line_ends (Refused why) can = refused_ends why
line_ends (Hello mark body) can =
    both (hello_word ++ mark_text mark) (args_text Readable body) (both hello_word (mark_text mark) (written hello_word refl) (mark_ends mark can.0)) (args body)
line_ends (Event mark service name body) can =
    both (event_word ++ mark_text mark) (named_text Readable service name body) (both event_word (mark_text mark) (written event_word refl) (mark_ends mark can.0))
    (named service name body)
line_ends (Progress n mark body) can = answer progress_word n mark body (written progress_word refl) can.0 can.1
line_ends (Final n mark body) can = answer result_word n mark body (written result_word refl) can.0 can.1
line_ends (Unknown n mark) can = both (numbered unknown_word n) (mark_text mark) (begun unknown_word n (written unknown_word refl) can.0) (mark_ends mark can.1)
line_ends (WasClosed n) can = begun closed_word n (written closed_word refl) can
line_ends (Ended why) can = ended_ends why
line_ends (Cached what value) can =
    both (cached_front ++ asked_text Readable what) (value_text value) (both cached_front (asked_text Readable what) (written cached_front refl) (asked_ends what can.0))
    (value_ends value can.1)

-- ---- The lines before the log

thread_ends : (thread : ContextId) → IsThread thread → Lacks 10 (context_spelling thread)
thread_ends (Process p) is = absurd is
thread_ends (Thread p q) is =
    both (codes "P") (decimal p ++ (codes "." ++ decimal q)) (written (codes "P") refl)
    (both (decimal p) (codes "." ++ decimal q) (digits p (omega (arith, is.0.1))) (both (codes ".") (decimal q) (written (codes ".") refl) (digits q (omega (arith, is.1.1)))))

pub input_ends : (input : Input) → IsInput input → InputIsRead input → Lacks 10 (input_words input)
unfolding opened_word known_word unmade_word bad_word ticked_word shut_word
input_ends (Opened k) is read = begun opened_word k (written opened_word refl) is
input_ends (Executed k (readings.Known command) service name) is read =
    both (numbered known_word k) (named_text Readable service name (body_of command)) (begun known_word k (written known_word refl) is.0) (named service name (body_of command))
input_ends (Executed k readings.Unknown service name) is read =
    both (numbered unmade_word k) (names_text service name) (begun unmade_word k (written unmade_word refl) is.0) (names service name)
input_ends (Executed k (readings.Bad index code) service name) is read =
    both (numbered bad_word k ++ 32 ∷ decimal index ++ 32 ∷ decimal code) (names_text service name)
    (both (numbered bad_word k ++ 32 ∷ decimal index) (32 ∷ decimal code)
    (both (numbered bad_word k) (32 ∷ decimal index) (begun bad_word k (written bad_word refl) is.0) (number index is.1)) (number code (code_small read.1.0 index code read.1.1)))
    (names service name)
input_ends (Ticked thread) is read = both ticked_word (32 ∷ context_spelling thread) (written ticked_word refl) (blank, thread_ends thread is)
input_ends (Closed k) is read = begun shut_word k (written shut_word refl) is

hex_ends : (bytes : List ℕ) → AllByRecursion IsByte bytes → Lacks 10 (hex_text bytes)
hex_ends [] are = written (codes "-") refl
hex_ends (b ∷ bytes) are = all_pass is_low_hex refl (encode_lower (b ∷ bytes)) (all_low (b ∷ bytes) are)

pub image_ends : (image : Image) → IsImage image → Lacks 10 (image_word ++ 32 ∷ image.name ++ 32 ∷ hex_text image.bytes)
unfolding image_word
image_ends image is =
    both (image_word ++ 32 ∷ image.name) (32 ∷ hex_text image.bytes)
    (both image_word (32 ∷ image.name) (written image_word refl) (blank, all_pass is_ascii_alphanumeric refl image.name (and_parts _ _ is.0).1)) (blank, hex_ends image.bytes is.1)
