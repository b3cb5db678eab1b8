-- A word that stands alone.
use Rattle.std.proofs.Common.{◌≡◌, ℕ, ◌<◌, ◌==◌, List, [], ◌∷◌, length, refl, arith}
use Rattle.std.specs.Prelude.{None}
use Rattle.std.proofs.lemmas.List.Splits.{length-slice_split}
use Rattle.line_words.specs.Words.{only_of, words_of}

only_none : (word : List ℕ) (words : List (List ℕ)) → 0 < length words → only_of (word ∷ words) ≡ None
only_none word [] some = absurd (omega arith)
only_none word (next ∷ more) some = refl

-- a word before those of a text doesn't stand alone
pub only_more : (word text : List ℕ) → only_of (word ∷ words_of text) ≡ None
only_more word text = only_none word (words_of text) (omega (arith, length-slice_split (λ b. b == 32) text))
