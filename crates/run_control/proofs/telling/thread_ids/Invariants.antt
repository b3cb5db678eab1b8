use Rattle.std.proofs.Common.{◌≡◌, map}
use Rattle.target_contexts.specs.Threads.{numbers_to}
use Rattle.run_control.specs.Naming.{thread_id}
use Rattle.run_control.proofs.telling.thread_ids.Given as goal

-- the IDs so far
abbrev pub invariant-loop-place : goal.invariant-loop-place
invariant-loop-place l = l.ids ≡ map (thread_id l.number) (numbers_to l.place)
