-- What a journal's text says is the journal.
use Rattle.std.proofs.Common.{◌≡◌, ◌≢◌, ℕ, ◌+◌, Bool, true, false, List, [], ◌∷◌, ◌++◌, length, map, refl, sym, ◌∙◌, ap, append-nil, append_assoc}
use Rattle.std.specs.Prelude.{Some, None, option_map, option_and_then, Ok, Err, bytes_eq, decimal}
use Rattle.std.specs.Char.{is_ascii_alphanumeric}
use Rattle.std.specs.List.{AllByRecursion, list_all, list_any}
use Rattle.std.proofs.lemmas.Bool.{cond-false, false_from_ne_true, or_from, or_parts}
use Rattle.std.proofs.lemmas.Slice.Eq.{bytes_eq-Decides}
use Rattle.tcf_values.specs.Cut.{Lacks}
use Rattle.tcf_values.specs.CutLaws.{cut_there}
use Rattle.tcf_values.specs.Spelling.{context_spelling}
use Rattle.line_words.specs.Exact.{Passes, all_lack, both_exact, itself}
use Rattle.command_tables.specs.Canonical.{body_of}
use Rattle.command_tables.specs.declared.reading.Reading.TheVariants as readings
use Rattle.target_contexts.specs.declared.process.Image.{Image}
use Rattle.target_hub.specs.declared.input.Input.{Input}
use Rattle.target_hub.specs.declared.input.Input.TheVariants.{Opened, Executed, Ticked, Closed}
use Rattle.tcf_schedules.specs.Line.{image_word}
use Rattle.tcf_schedules.specs.Reading.{hex_of, imaging_of, name_of}
use Rattle.tcf_schedules.specs.Schedule.{AreDistinct, is_skipped, lines_of}
use Rattle.tcf_schedules.specs.Words.{is_hex_word, is_name}
use Rattle.tcf_schedules.specs.declared.schedule.TextFault.TheVariants.{Repeat}
use Rattle.tcf_schedules.proofs.Grammar.{hex_exact, name_exact, name_words}
use Rattle.tcf_text.specs.Log.{cached_front, closed_word as over_word, end_front, event_word, hello_word, named_text, progress_word, refused_front, result_word, sent_word, unknown_word as unmade_word}
use Rattle.tcf_text.specs.Reading.{CanBeRead, line_of}
use Rattle.tcf_text.specs.declared.log.LogLine.{LogLine}
use Rattle.tcf_text.specs.declared.log.LogLine.TheVariants.{Sent, Refused, Hello, Event, Progress, Final, Unknown, Closed as WasClosed, Ended, Cached}
use Rattle.tcf_text.specs.declared.log.Showing.TheVariants.{Readable}
use Rattle.tcf_text.proofs.LinesBack.{lines_are_read_back}
use Rattle.journal_text.specs.Inputs.{bad_word, closed_word, input_of, known_word, opened_word, ticked_word, unknown_word}
use Rattle.journal_text.specs.Journal.{SoFar, after_line, after_lines, an_input, and_image, and_log_line, at_line, going_on, has_name, head_of, image, image_behind, image_line, image_said, imaging, log_word, nothing, or_input, the_log, whole, with_head, with_more}
use Rattle.journal_text.specs.Written.{CanBeWritten, IsImage, IsInput, IsInputBack, IsReadBack, hex_text, input_words, journal_text, names_text}
use Rattle.journal_text.proofs.HexBack.{hex_back, hex_is_word}
use Rattle.journal_text.proofs.Lines.{all_lines, image_words, journal_lines, log_words}

-- ---- One line

-- what the lines of the images, of the inputs and of the log said so far
abbrev with_images : List Image → SoFar
with_images images = record { images = images; inputs = []; lines = None }

abbrev with_inputs : List Image → List Input → SoFar
with_inputs images inputs = record { images = images; inputs = inputs; lines = None }

abbrev with_log : List Image → List Input → List LogLine → SoFar
with_log images inputs lines = record { images = images; inputs = inputs; lines = Some lines }

next_line : (number : ℕ) (s next : SoFar) (line : List ℕ) (rest : List (List ℕ)) → after_line s line ≡ Ok next → after_lines number s (line ∷ rest) ≡ after_lines (number + 1) next rest
next_line number s next line rest is = ap (λ r. going_on (λ n. after_lines (number + 1) n rest) (at_line number r)) is

-- ---- Images

imaging_there : (name digits : List ℕ) → is_name name ≡ true → is_hex_word digits ≡ true → imaging_of (name ++ 32 ∷ digits) ≡ Some (name, digits)
imaging_there name digits one other =
    (both_exact (List ℕ) (List ℕ) name_of hex_of (Passes is_name) (Passes is_hex_word) itself itself name_exact name_words hex_exact).there (name, digits) (one, other)

image_there : (name digits : List ℕ) → is_name name ≡ true → is_hex_word digits ≡ true → image_line (image_word ++ 32 ∷ name ++ 32 ∷ digits) ≡ Some (image name digits)
unfolding image_word
image_there name digits one other =
    ap (option_and_then (λ parts. image_behind parts.0 parts.1))
    (cut_there 32 (image_word ++ 32 ∷ name ++ 32 ∷ digits) image_word (name ++ 32 ∷ digits) (all_lack is_ascii_alphanumeric refl image_word refl, refl))
    ∙ ap (option_map imaging) (imaging_there name digits one other)

image_head : (i : Image) → IsImage i → head_of (image_words i) ≡ Some (image i.name (hex_text i.bytes))
unfolding head_of log_word image_word
image_head i is = ap (λ o. or_input o (input_of (image_words i))) (image_there i.name (hex_text i.bytes) is.0 (hex_is_word i.bytes is.1))

image_same : (i : Image) → IsImage i → image_said i.name (hex_text i.bytes) ≡ i
image_same i is = ap (λ (b : List ℕ). image_said_as i.name b) (hex_back i.bytes is.1)
  where
    image_said_as : List ℕ → List ℕ → Image
    image_said_as name bytes = record { name = name; bytes = bytes }

one_image : (i : Image) (done : List Image) → IsImage i → has_name i.name done ≡ false → after_line (with_images done) (image_words i) ≡ Ok (with_images (done ++ i ∷ []))
unfolding image_word
one_image i done is new =
    ap (λ h. with_head h (with_images done)) (image_head i is)
    ∙ (cond-false (has_name i.name done) (Err Repeat) (Ok (and_image i.name (hex_text i.bytes) (with_images done))) new
    ∙ ap (λ (j : Image). Ok (with_images (done ++ j ∷ []))) (image_same i is))

abbrev IsNew : List Image → Image → Type 0
IsNew done i = has_name i.name done ≡ false

none_more : (test : Image → Bool) (done : List Image) (i : Image) → list_any test done ≡ false → test i ≡ false → list_any test (done ++ i ∷ []) ≡ false
none_more test [] i none fails = or_from (test i) false fails refl
none_more test (j ∷ done) i none fails =
    let parts = or_parts (test j) (list_any test done) none in
    or_from (test j) (list_any test (done ++ i ∷ [])) parts.0 (none_more test done i parts.1 fails)

still_new : (i : Image) (done images : List Image) → AllByRecursion (λ other. other ≢ i.name) (map (λ (j : Image). j.name) images) → AllByRecursion (IsNew done) images
    → AllByRecursion (IsNew (done ++ i ∷ [])) images
still_new i done [] differ new = tt
still_new i done (j ∷ images) differ new = (
  none_more (λ (k : Image). bytes_eq k.name j.name) done i new.0 (false_from_ne_true _ (λ e. differ.0 (sym ((bytes_eq-Decides i.name j.name).0 e)))),
  still_new i done images differ.1 new.1,
)

images_back : (number : ℕ) (images done : List Image) (rest : List (List ℕ)) → AllByRecursion IsImage images → AreDistinct (map (λ (i : Image). i.name) images)
    → AllByRecursion (IsNew done) images → (m : ℕ) × (after_lines number (with_images done) (map image_words images ++ rest) ≡ after_lines m (with_images (done ++ images)) rest)
images_back number [] done rest are differ new = (number, ap (λ is. after_lines number (with_images is) rest) (sym (append-nil done)))
images_back number (i ∷ images) done rest are differ new =
    let more = images_back (number + 1) images (done ++ i ∷ []) rest are.1 differ.1 (still_new i done images differ.0 new.1) in (
      more.0,
      next_line number (with_images done) (with_images (done ++ i ∷ [])) (image_words i) (map image_words images ++ rest) (one_image i done are.0 new.0)
          ∙ (more.1 ∙ ap (λ is. after_lines more.0 (with_images is) rest) (append_assoc done (i ∷ []) images)),
    )

-- ---- Inputs

-- a line with another first word has no image
no_image : (text word rest : List ℕ) → text ≡ word ++ 32 ∷ rest → Lacks 32 word → bytes_eq word image_word ≡ false → image_line text ≡ None
no_image text word rest is lacks other =
    ap (option_and_then (λ parts. image_behind parts.0 parts.1)) (cut_there 32 text word rest (lacks, is)) ∙ cond-false (bytes_eq word image_word) _ None other

letters : (word : List ℕ) → list_all is_ascii_alphanumeric word ≡ true → Lacks 32 word
letters word all = all_lack is_ascii_alphanumeric refl word all

no_image_there : (input : Input) → image_line (input_words input) ≡ None
unfolding image_word opened_word known_word unknown_word bad_word ticked_word closed_word
no_image_there (Opened k) = no_image _ opened_word (decimal k) refl (letters opened_word refl) refl
no_image_there (Executed k (readings.Known command) service name) =
    no_image _ known_word (decimal k ++ named_text Readable service name (body_of command)) refl (letters known_word refl) refl
no_image_there (Executed k readings.Unknown service name) = no_image _ unknown_word (decimal k ++ names_text service name) refl (letters unknown_word refl) refl
no_image_there (Executed k (readings.Bad index code) service name) =
    no_image _ bad_word (decimal k ++ 32 ∷ decimal index ++ 32 ∷ decimal code ++ names_text service name) refl (letters bad_word refl) refl
no_image_there (Ticked thread) = no_image _ ticked_word (context_spelling thread) refl (letters ticked_word refl) refl
no_image_there (Closed k) = no_image _ closed_word (decimal k) refl (letters closed_word refl) refl

not_the_log : (input : Input) → bytes_eq (input_words input) log_word ≡ false
unfolding log_word opened_word known_word unknown_word bad_word ticked_word closed_word
not_the_log (Opened k) = refl
not_the_log (Executed k (readings.Known command) service name) = refl
not_the_log (Executed k readings.Unknown service name) = refl
not_the_log (Executed k (readings.Bad index code) service name) = refl
not_the_log (Ticked thread) = refl
not_the_log (Closed k) = refl

input_kept : (input : Input) → is_skipped (input_words input) ≡ false
unfolding opened_word known_word unknown_word bad_word ticked_word closed_word
input_kept (Opened k) = refl
input_kept (Executed k (readings.Known command) service name) = refl
input_kept (Executed k readings.Unknown service name) = refl
input_kept (Executed k (readings.Bad index code) service name) = refl
input_kept (Ticked thread) = refl
input_kept (Closed k) = refl

input_head : (input : Input) → input_of (input_words input) ≡ Some input → head_of (input_words input) ≡ Some (an_input input)
unfolding head_of
input_head input is =
    cond-false (bytes_eq (input_words input) log_word) (Some the_log) (or_input (image_line (input_words input)) (input_of (input_words input))) (not_the_log input)
    ∙ (ap (λ o. or_input o (input_of (input_words input))) (no_image_there input) ∙ ap (option_map an_input) is)

one_input : (images : List Image) (done : List Input) (input : Input) → input_of (input_words input) ≡ Some input
    → after_line (with_inputs images done) (input_words input) ≡ Ok (with_inputs images (done ++ input ∷ []))
one_input images done input is =
    cond-false (is_skipped (input_words input)) (Ok (with_inputs images done)) (with_head (head_of (input_words input)) (with_inputs images done)) (input_kept input)
    ∙ ap (λ h. with_head h (with_inputs images done)) (input_head input is)

inputs_back : (number : ℕ) (images : List Image) (inputs done : List Input) (rest : List (List ℕ)) → AllByRecursion IsInput inputs → AllByRecursion IsInputBack inputs
    → (m : ℕ) × (after_lines number (with_inputs images done) (map input_words inputs ++ rest) ≡ after_lines m (with_inputs images (done ++ inputs)) rest)
inputs_back number images [] done rest are back = (number, ap (λ is. after_lines number (with_inputs images is) rest) (sym (append-nil done)))
inputs_back number images (input ∷ inputs) done rest are back =
    let more = inputs_back (number + 1) images inputs (done ++ input ∷ []) rest are.1 back.1 in (
      more.0,
      next_line number (with_inputs images done) (with_inputs images (done ++ input ∷ [])) (input_words input) (map input_words inputs ++ rest) (one_input images done input (back.0 are.0))
          ∙ (more.1 ∙ ap (λ is. after_lines more.0 (with_inputs images is) rest) (append_assoc done (input ∷ []) inputs)),
    )

-- ---- The log

log_begins : (images : List Image) (inputs : List Input) → after_line (with_inputs images inputs) log_word ≡ Ok (with_log images inputs [])
unfolding head_of log_word
log_begins images inputs = refl

line_kept : (line : LogLine) → is_skipped (log_words line) ≡ false
unfolding sent_word refused_front hello_word event_word progress_word result_word unmade_word over_word end_front cached_front
line_kept (Sent number service name body) = refl
line_kept (Refused why) = refl
line_kept (Hello mark body) = refl
line_kept (Event mark service name body) = refl
line_kept (Progress number mark body) = refl
line_kept (Final number mark body) = refl
line_kept (Unknown number mark) = refl
line_kept (WasClosed number) = refl
line_kept (Ended why) = refl
line_kept (Cached what value) = refl

one_line : (images : List Image) (inputs : List Input) (done : List LogLine) (line : LogLine) → CanBeRead line
    → after_line (with_log images inputs done) (log_words line) ≡ Ok (with_log images inputs (done ++ line ∷ []))
one_line images inputs done line can =
    cond-false (is_skipped (log_words line)) (Ok (with_log images inputs done)) (with_more (with_log images inputs done) (and_log_line done (line_of (log_words line)) (head_of (log_words line)))) (line_kept line)
    ∙ ap (λ l. with_more (with_log images inputs done) (and_log_line done l (head_of (log_words line)))) (lines_are_read_back line can)

log_back : (number : ℕ) (images : List Image) (inputs : List Input) (lines done : List LogLine) → AllByRecursion CanBeRead lines
    → after_lines number (with_log images inputs done) (map log_words lines) ≡ Ok (with_log images inputs (done ++ lines))
log_back number images inputs [] done can = ap (λ ls. Ok (with_log images inputs ls)) (sym (append-nil done))
log_back number images inputs (line ∷ lines) done can =
    next_line number (with_log images inputs done) (with_log images inputs (done ++ line ∷ [])) (log_words line) (map log_words lines) (one_line images inputs done line can.0)
    ∙ (log_back (number + 1) images inputs lines (done ++ line ∷ []) can.1 ∙ ap (λ ls. Ok (with_log images inputs ls)) (append_assoc done (line ∷ []) lines))

-- ---- The journal

all_new : (images : List Image) → AllByRecursion (IsNew []) images
all_new [] = tt
all_new (i ∷ images) = (refl, all_new images)

lines_back : (images : List Image) (inputs : List Input) (lines : List LogLine) → AllByRecursion IsInputBack inputs → CanBeWritten images inputs lines
    → after_lines 1 nothing (all_lines images inputs lines) ≡ Ok (with_log images inputs lines)
lines_back images inputs lines back can =
    let first = images_back 1 images [] (map input_words inputs ++ log_word ∷ map log_words lines) can.images_are can.distinct (all_new images) in
    let second = inputs_back first.0 images inputs [] (log_word ∷ map log_words lines) can.inputs_are back in
    first.1
    ∙ (second.1
    ∙ (next_line second.0 (with_inputs images inputs) (with_log images inputs []) log_word (map log_words lines) (log_begins images inputs)
    ∙ log_back (second.0 + 1) images inputs lines [] can.lines_are))

pub read_back : (images : List Image) (inputs : List Input) (lines : List LogLine) → AllByRecursion IsInputBack inputs → IsReadBack images inputs lines
read_back images inputs lines back can =
    let text = journal_text images inputs lines in
    ap (λ o. going_on (λ (s : SoFar). at_line (length (lines_of text) + 1) (whole s s.lines)) o)
    (ap (after_lines 1 nothing) (journal_lines images inputs lines can.images_are can.inputs_are can.read can.lines_are) ∙ lines_back images inputs lines back can)
