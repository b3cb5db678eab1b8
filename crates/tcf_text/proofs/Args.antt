-- The text of a log line's data.
use Rattle.std.proofs.Common.{◌≡◌, ℕ, ◌==◌, List, [], ◌∷◌, ◌++◌, refl, sym, ◌∙◌, ap, append_assoc, arith, ◌<◌, length}
use Rattle.std.specs.List.{slice_split, flat_map}
use Rattle.std.proofs.lemmas.List.Splits.{length-slice_split}
use Rattle.tcf_values.specs.Cut.{Lacks, IsCut}
use Rattle.tcf_text.specs.declared.log.Showing.{Showing}
use Rattle.tcf_text.specs.Log.{args_text, parts_text, word_text, rest_text, shown, shown_byte}
use Rattle.line_words.proofs.Cuts.{split_cut, split_lacks}

-- a part, where more stands behind it
parts_more : (how : Showing) (part : List ℕ) (parts : List (List ℕ)) → 0 < length parts → parts_text how (part ∷ parts) ≡ word_text how part ++ parts_text how parts
parts_more how part [] more = absurd (omega arith)
parts_more how part (next ∷ parts) more = refl

-- data without a zero is a rest
pub args_of_rest : (how : Showing) (body : List ℕ) → Lacks 0 body → args_text how body ≡ rest_text body
args_of_rest how body lacks = ap (parts_text how) (split_lacks 0 body lacks)

-- data with a zero is a part and more data
pub args_of_part : (how : Showing) (body part rest : List ℕ) → IsCut 0 body part rest → args_text how body ≡ word_text how part ++ args_text how rest
args_of_part how body part rest is =
    ap (parts_text how) (split_cut 0 body part rest is)
    ∙ parts_more how part (slice_split (λ b. b == 0) rest) (omega (arith, length-slice_split (λ b. b == 0) rest))

-- a word that isn't empty is shown byte by byte
pub shown_is : (part : List ℕ) → 0 < length part → shown part ≡ flat_map shown_byte part
shown_is [] some = absurd (omega arith)
shown_is (b ∷ bs) some = refl

-- one part of some data was shown
pub args_step : (how : Showing) (start out new rest part after : List ℕ) → start ≡ out ++ args_text how rest → IsCut 0 rest part after → new ≡ out ++ word_text how part
    → start ≡ new ++ args_text how after
args_step how start out new rest part after so_far is shows =
    so_far ∙ (ap (λ t. out ++ t) (args_of_part how rest part after is)
    ∙ (sym (append_assoc out (word_text how part) (args_text how after)) ∙ ap (λ t. t ++ args_text how after) (sym shows)))

-- the rest of the data was shown
pub args_end : (how : Showing) (start out new rest : List ℕ) → start ≡ out ++ args_text how rest → Lacks 0 rest → new ≡ out ++ rest_text rest → new ≡ start
args_end how start out new rest so_far lacks shows = shows ∙ (ap (λ t. out ++ t) (sym (args_of_rest how rest lacks)) ∙ sym so_far)
