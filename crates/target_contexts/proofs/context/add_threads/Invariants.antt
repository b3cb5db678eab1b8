use Rattle.std.proofs.Common.{◌≡◌, ◌+◌, ◌++◌, map}
use Rattle.std.specs.List.{range_with_len}
use Rattle.target_contexts.specs.Contexts.{thread_data}
use Rattle.target_contexts.proofs.context.add_threads.Given as goal

-- those that there were, and those of the threads so far
abbrev pub invariant-loop-place : goal.invariant-loop-place
invariant-loop-place l = l.list ≡ l.initial.list ++ map (λ n. thread_data l.number n l.process.seen) (range_with_len (l.behind + 1) l.place)
