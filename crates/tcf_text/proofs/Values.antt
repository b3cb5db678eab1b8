-- What a cache had, as the words of its line say it.
use Rattle.std.proofs.Common.{◌≡◌, ℕ, ◌<◌, ◌==◌, Bool, true, false, cond, List, [], ◌∷◌, length, ◌∙◌, ap, arith}
use Rattle.std.specs.Prelude.{Option, Some, None, bytes_eq}
use Rattle.std.specs.List.{join_with_byte, list_all}
use Rattle.std.proofs.lemmas.Bool.{cond-false, cond-true}
use Rattle.std.proofs.lemmas.List.Splits.{length-slice_split, join_with_byte-slice_split}
use Rattle.line_words.specs.Words.{is_word, words_of}
use Rattle.tcf_text.specs.Reading.{none_value, value_said}

by_words : (text : List ℕ) (words : List (List ℕ)) → 0 < length words → join_with_byte 32 words ≡ text
    → value_said words ≡ cond (bytes_eq text none_value) (Some None) (cond (list_all is_word words) (Some (Some text)) None)
unfolding value_said
by_words text [] some is = absurd (omega arith)
by_words text (word ∷ words) some is =
    ap (λ t. cond (bytes_eq t none_value) (Some None) (cond (list_all is_word (word ∷ words)) (Some (Some t)) None)) is

-- a value of these words, where they aren't `none`
pub value_by : (words : List (List ℕ)) (text : List ℕ) (all : Bool) → words ≡ words_of text → bytes_eq text none_value ≡ false → list_all is_word (words_of text) ≡ all
    → value_said words ≡ cond all (Some (Some text)) None
value_by words text all is other are =
    ap value_said is
    ∙ (by_words text (words_of text) (omega (arith, length-slice_split (λ b. b == 32) text)) (join_with_byte-slice_split 32 text)
    ∙ (cond-false (bytes_eq text none_value) (Some None) (cond (list_all is_word (words_of text)) (Some (Some text)) None) other
    ∙ ap (λ b. cond b (Some (Some text)) None) are))
