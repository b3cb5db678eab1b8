use Rattle.std.proofs.Common.{◌≡◌, ◌<◌, filter, All}
use Rattle.target_contexts.specs.Named.{is_suspended}
use Rattle.target_contexts.specs.ThreadList.{numbered}
use Rattle.target_contexts.specs.Threads.{numbers_to}
use Rattle.target_contexts.proofs.targets.suspended_in.Given as goal

-- those so far
abbrev pub invariant-loop-place : goal.invariant-loop-place
invariant-loop-place l = record {
  same : l.numbers.items ≡ filter (λ n. is_suspended (numbered n l.threads)) (numbers_to l.place);
  positive : All (λ n. 0 < n) l.numbers.items;
}
