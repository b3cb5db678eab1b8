use Rattle.std.proofs.Common.{◌≡◌, ◌++◌, length}
use Rattle.std.specs.Prelude.{option_map}
use Rattle.tcf_text.specs.Said.{data_said}
use Rattle.line_words.specs.Words.{words_of}
use Rattle.tcf_text.proofs.said.data_in.Given as goal

abbrev pub invariant-loop-word : goal.invariant-loop-word
invariant-loop-word l = data_said (words_of l.text) ≡ option_map (λ d. l.out ++ d) (data_said (words_of l.rest))

abbrev pub decreases-loop-word : goal.decreases-loop-word
decreases-loop-word l = length l.rest
