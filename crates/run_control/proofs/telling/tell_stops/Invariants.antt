use Rattle.std.proofs.Common.{◌≡◌, ◌++◌}
use Rattle.std.specs.List.{flat_map}
use Rattle.target_contexts.specs.ThreadList.{numbered}
use Rattle.target_contexts.specs.Threads.{numbers_to}
use Rattle.run_control.specs.Telling.{suspended_events}
use Rattle.run_control.proofs.telling.tell_stops.Given as goal

-- what is told so far
abbrev pub invariant-loop-place : goal.invariant-loop-place
invariant-loop-place l = l.events ≡ l.initial.events ++ flat_map (λ n. suspended_events l.number n (numbered n l.threads)) (numbers_to l.place)
