-- What a cut does to the parts of a text.
use Rattle.std.proofs.Common.{◌≡◌, ℕ, ◌<◌, ◌==◌, List, [], ◌∷◌, ◌++◌, length, refl, sym, ◌∙◌, ap, arith, false, ◌&&◌}
use Rattle.std.specs.List.{list_all, slice_split, onto_first}
use Rattle.std.proofs.lemmas.Bool.{eq-eqb, ne_eqb}
use Rattle.std.proofs.lemmas.List.{length-append}
use Rattle.std.proofs.lemmas.List.Splits.{slice_split-cons_yes, slice_split-cons_no}
use Rattle.tcf_values.specs.Cut.{Lacks, IsCut}
use Rattle.line_words.specs.Words.{is_word, words_of}

split_front : (byte : ℕ) (front rest : List ℕ) → Lacks byte front
    → slice_split (λ b. b == byte) (front ++ byte ∷ rest) ≡ front ∷ slice_split (λ b. b == byte) rest
split_front byte [] rest lacks = slice_split-cons_yes (λ b. b == byte) byte rest (eq-eqb byte byte refl)
split_front byte (b ∷ bs) rest lacks =
    slice_split-cons_no (λ x. x == byte) b (bs ++ byte ∷ rest) (ne_eqb b byte lacks.0) ∙ ap (onto_first b) (split_front byte bs rest lacks.1)

-- the first part of a text that is cut at a byte
pub split_cut : (byte : ℕ) (text front rest : List ℕ) → IsCut byte text front rest
    → slice_split (λ b. b == byte) text ≡ front ∷ slice_split (λ b. b == byte) rest
split_cut byte text front rest is = ap (slice_split (λ b. b == byte)) is.1 ∙ split_front byte front rest is.0

-- a text that lacks the byte is one part
pub split_lacks : (byte : ℕ) (text : List ℕ) → Lacks byte text → slice_split (λ b. b == byte) text ≡ text ∷ []
split_lacks byte [] lacks = refl
split_lacks byte (b ∷ bs) lacks =
    slice_split-cons_no (λ x. x == byte) b bs (ne_eqb b byte lacks.0) ∙ ap (onto_first b) (split_lacks byte bs lacks.1)

-- a text that is cut has a shorter rest
pub shorter_cut : (byte : ℕ) (text front rest : List ℕ) → IsCut byte text front rest → length rest < length text
shorter_cut byte text front rest is = omega (arith, ap length is.1, length-append front (byte ∷ rest))

-- the words of a text with a blank
pub words_cut : (text front rest : List ℕ) → IsCut 32 text front rest → words_of text ≡ front ∷ words_of rest
words_cut text front rest is = split_cut 32 text front rest is

-- the one word of a text without a blank
pub words_last : (text : List ℕ) → Lacks 32 text → words_of text ≡ text ∷ []
words_last text lacks = split_lacks 32 text lacks

-- a text whose later words are words exactly where all are, and of which one isn't
pub bad_word : (text rest word after : List ℕ) → list_all is_word (words_of text) ≡ list_all is_word (words_of rest)
    → IsCut 32 rest word after → is_word word ≡ false → false ≡ list_all is_word (words_of text)
bad_word text rest word after so_far is bad =
    sym (so_far ∙ (ap (list_all is_word) (words_cut rest word after is) ∙ ap (λ t. t && list_all is_word (words_of after)) bad))
