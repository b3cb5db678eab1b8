use Rattle.std.proofs.Common.{◌≡◌, ◌++◌, drop, map}
use Rattle.tcf_schedules.specs.Words.{data_of}
use Rattle.load_schedules.proofs.commands.data.Given as goal

-- the parts so far and those of the words that are left are the whole data
abbrev pub invariant-loop-word : goal.invariant-loop-word
invariant-loop-word l = data_of (map (λ word. word.now) l.words) ≡ l.body ++ data_of (map (λ word. word.now) (drop l.word-index l.words))
