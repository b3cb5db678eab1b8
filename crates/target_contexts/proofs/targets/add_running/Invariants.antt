use Rattle.std.proofs.Common.{◌≡◌, ◌++◌}
use Rattle.target_contexts.proofs.Running.{running_to}
use Rattle.target_contexts.proofs.targets.add_running.Given as goal

-- those that there were, and those so far
abbrev pub invariant-loop-place : goal.invariant-loop-place
invariant-loop-place l = l.running.items ≡ l.initial.running.items ++ running_to l.number l.threads l.place
