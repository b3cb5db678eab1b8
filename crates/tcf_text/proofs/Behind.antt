-- The words of a text that is written word by word.
use Rattle.std.proofs.Common.{◌≡◌, ℕ, ◌==◌, List, [], ◌∷◌, ◌++◌, refl, sym, ◌∙◌, ap, append-nil, append_assoc}
use Rattle.std.specs.Prelude.{flat_map}
use Rattle.std.specs.List.{AllByRecursion, slice_split}
use Rattle.tcf_values.specs.Cut.{Lacks}
use Rattle.line_words.specs.Words.{words_of}
use Rattle.line_words.proofs.Cuts.{words_cut, words_last}
use Rattle.tcf_text.specs.Log.{args_text, parts_text, rest_text, word_text, shown_byte}
use Rattle.tcf_text.specs.declared.log.Showing.TheVariants.{Readable}
use Rattle.tcf_text.specs.Said.{data_words, parts_words, rest_words}

-- a word behind a blank, and several, each behind one
abbrev pub blank_word : List ℕ → List ℕ
blank_word word = 32 ∷ word

abbrev pub behind : List (List ℕ) → List ℕ
behind words = flat_map blank_word words

abbrev pub LackBlanks : List (List ℕ) → Type 0
LackBlanks words = AllByRecursion (Lacks 32) words

pub words_behind : (word : List ℕ) (words : List (List ℕ)) → Lacks 32 word → LackBlanks words → words_of (word ++ behind words) ≡ word ∷ words
words_behind word [] lacks all = ap words_of (append-nil word) ∙ words_last word lacks
words_behind word (next ∷ words) lacks all =
    words_cut (word ++ behind (next ∷ words)) word (next ++ behind words) (lacks, refl) ∙ ap (λ ws. word ∷ ws) (words_behind next words all.0 all.1)

-- the data of a line are the words of its parts, each behind a blank
rest_behind : (rest : List ℕ) → rest_text rest ≡ behind (rest_words rest)
rest_behind [] = refl
rest_behind (byte ∷ bytes) = sym (append-nil (32 ∷ 33 ∷ (shown_byte byte ++ flat_map shown_byte bytes)))

parts_behind : (parts : List (List ℕ)) → parts_text Readable parts ≡ behind (parts_words parts)
parts_behind [] = refl
parts_behind (rest ∷ []) = rest_behind rest
parts_behind (part ∷ next ∷ more) = ap (λ t. word_text Readable part ++ t) (parts_behind (next ∷ more))

pub args_behind : (body : List ℕ) → args_text Readable body ≡ behind (data_words body)
args_behind body = parts_behind (slice_split (λ b. b == 0) body)
