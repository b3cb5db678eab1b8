-- The lines of a journal's text.
use Rattle.std.proofs.Common.{◌≡◌, ℕ, List, [], ◌∷◌, ◌++◌, map, refl, sym, ◌∙◌, ap, append-nil, append_assoc, arith}
use Rattle.std.specs.Prelude.{flat_map}
use Rattle.std.specs.List.{AllByRecursion}
use Rattle.tcf_values.specs.Cut.{Lacks}
use Rattle.target_contexts.specs.declared.process.Image.{Image}
use Rattle.target_hub.specs.declared.input.Input.{Input}
use Rattle.tcf_schedules.specs.Line.{image_word}
use Rattle.tcf_schedules.specs.Schedule.{lines_of}
use Rattle.tcf_schedules.proofs.Lines.{lines_cut}
use Rattle.tcf_text.specs.Log.{line_words, lines_text}
use Rattle.tcf_text.specs.Reading.{CanBeRead}
use Rattle.tcf_text.specs.declared.log.LogLine.{LogLine}
use Rattle.tcf_text.specs.declared.log.Showing.TheVariants.{Readable}
use Rattle.journal_text.specs.Inputs.{InputIsRead}
use Rattle.journal_text.specs.Journal.{log_word}
use Rattle.journal_text.specs.Written.{IsImage, IsInput, hex_text, image_text, input_text, input_words, journal_text}
use Rattle.journal_text.proofs.Ends.{image_ends, input_ends, line_ends}

-- an image's line without its end
abbrev pub image_words : Image → List ℕ
image_words image = image_word ++ 32 ∷ image.name ++ 32 ∷ hex_text image.bytes

-- a line of the log without its end
abbrev pub log_words : LogLine → List ℕ
log_words line = line_words Readable line

-- lines that are written one by one, each with its end
lines_each : {A : Type 0} (text : A → List ℕ) (items : List A) (rest : List ℕ) → AllByRecursion (λ x. Lacks 10 (text x)) items
    → lines_of (flat_map (λ x. text x ++ 10 ∷ []) items ++ rest) ≡ map text items ++ lines_of rest
lines_each text [] rest ends = refl
lines_each text (x ∷ items) rest ends =
    let more = flat_map (λ y. text y ++ 10 ∷ []) items in
    ap lines_of (append_assoc (text x ++ 10 ∷ []) more rest ∙ append_assoc (text x) (10 ∷ []) (more ++ rest))
    ∙ (lines_cut (text x ++ 10 ∷ (more ++ rest)) (text x) (more ++ rest) (ends.0, refl) ∙ ap (λ ls. text x ∷ ls) (lines_each text items rest ends.1))

lines_all : {A : Type 0} (text : A → List ℕ) (items : List A) → AllByRecursion (λ x. Lacks 10 (text x)) items → lines_of (flat_map (λ x. text x ++ 10 ∷ []) items) ≡ map text items
lines_all text items ends =
    ap lines_of (sym (append-nil (flat_map (λ x. text x ++ 10 ∷ []) items))) ∙ (lines_each text items [] ends ∙ append-nil (map text items))

images_end : (images : List Image) → AllByRecursion IsImage images → AllByRecursion (λ i. Lacks 10 (image_words i)) images
images_end [] are = tt
images_end (image ∷ images) are = (image_ends image are.0, images_end images are.1)

inputs_end : (inputs : List Input) → AllByRecursion IsInput inputs → AllByRecursion InputIsRead inputs → AllByRecursion (λ i. Lacks 10 (input_words i)) inputs
inputs_end [] are read = tt
inputs_end (input ∷ inputs) are read = (input_ends input are.0 read.0, inputs_end inputs are.1 read.1)

log_ends : (lines : List LogLine) → AllByRecursion CanBeRead lines → AllByRecursion (λ l. Lacks 10 (log_words l)) lines
log_ends [] can = tt
log_ends (line ∷ lines) can = (line_ends line can.0, log_ends lines can.1)

log_plain : Lacks 10 log_word
unfolding log_word
log_plain = ((λ is. omega arith), ((λ is. omega arith), ((λ is. omega arith), tt)))

-- the lines of the text: the images', the inputs', `log`, and those of the log
abbrev pub all_lines : List Image → List Input → List LogLine → List (List ℕ)
all_lines images inputs lines = map image_words images ++ (map input_words inputs ++ log_word ∷ map log_words lines)

pub journal_lines : (images : List Image) (inputs : List Input) (lines : List LogLine) → AllByRecursion IsImage images → AllByRecursion IsInput inputs → AllByRecursion InputIsRead inputs
    → AllByRecursion CanBeRead lines → lines_of (journal_text images inputs lines) ≡ all_lines images inputs lines
journal_lines images inputs lines are_images are_inputs read can =
    let first = flat_map image_text images in
    let second = flat_map input_text inputs in
    let third = lines_text Readable lines in
    ap lines_of (append_assoc (first ++ second) log_word (10 ∷ third) ∙ append_assoc first second (log_word ++ 10 ∷ third))
    ∙ (lines_each image_words images (second ++ (log_word ++ 10 ∷ third)) (images_end images are_images)
    ∙ ap (λ ls. map image_words images ++ ls) (lines_each input_words inputs (log_word ++ 10 ∷ third) (inputs_end inputs are_inputs read)
    ∙ ap (λ ls. map input_words inputs ++ ls) (lines_cut (log_word ++ 10 ∷ third) log_word third (log_plain, refl)
    ∙ ap (λ ls. log_word ∷ ls) (lines_all log_words lines (log_ends lines can)))))
