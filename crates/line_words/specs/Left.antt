-- The words of a line that are still to be read.
use Rattle.std.specs.Prelude.{ℕ, List, option_map}
use Rattle.line_words.specs.Words.{words_said}
use Rattle.line_words.specs.declared.left.WordsLeft.{WordsLeft}

abbrev pub words_left : WordsLeft → List (List ℕ)
words_left w = words_said (option_map (λ t. t.now) w.text)
