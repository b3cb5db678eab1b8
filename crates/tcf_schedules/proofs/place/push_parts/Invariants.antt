use Rattle.std.proofs.Common.{◌≡◌, ◌++◌, length}
use Rattle.tcf_schedules.specs.Words.{words_of, data_of}
use Rattle.tcf_schedules.proofs.place.push_parts.Given as goal

abbrev pub invariant-loop-word : goal.invariant-loop-word
invariant-loop-word l = l.initial.body ++ data_of (words_of l.words) ≡ l.body ++ data_of (words_of l.rest)

abbrev pub decreases-loop-word : goal.decreases-loop-word
decreases-loop-word l = length l.rest
