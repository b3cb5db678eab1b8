-- The words of a line, which single blanks separate, and how a line is read word by word.
use Rattle.std.specs.Prelude.{ℕ, ◌==◌, ◌&&◌, Bool, not, List, [], ◌∷◌, ◌++◌, length, nat_lt, Option, Some, None, option_map, option_and_then, if◌then◌else◌}
use Rattle.std.specs.List.{list_all, slice_split}
use Rattle.tcf_values.specs.Cut.{cut_of}

-- one word, a blank, and more of the line
abbrev pub spaced : List ℕ → List ℕ → List ℕ
spaced word more = word ++ 32 ∷ more

-- neither zero, nor the end of a line, nor a blank
abbrev pub is_inside : ℕ → Bool
is_inside byte = not (byte == 0) && not (byte == 10) && not (byte == 32)

-- a word of a line: one byte or more
abbrev pub is_word : List ℕ → Bool
is_word word = nat_lt 0 (length word) && list_all is_inside word

-- what stands between the blanks of a text
abbrev pub words_of : List ℕ → List (List ℕ)
words_of text = slice_split (λ byte. byte == 32) text

-- the words of a text, where there is one
abbrev pub words_said : Option (List ℕ) → List (List ℕ)
words_said None = []
words_said (Some text) = words_of text

-- the one word, where it stands alone
abbrev pub only_of : List (List ℕ) → Option (List ℕ)
only_of [] = None
only_of (word ∷ []) = Some word
only_of (word ∷ next ∷ words) = None

-- two things that a blank separates
abbrev pub both : {A B : Type 0} → (List ℕ → Option A) → (List ℕ → Option B) → List ℕ → Option (A × B)
both first second text =
    option_and_then (λ parts. option_and_then (λ a. option_map (λ b. (a, b)) (second parts.1)) (first parts.0)) (cut_of 32 text)

-- a text that passes a test
abbrev pub passing : (List ℕ → Bool) → List ℕ → Option (List ℕ)
passing test text = if test text then Some text else None

unfoldable pub word_of : List ℕ → Option (List ℕ)
word_of text = passing is_word text
