use Rattle.std.proofs.Common.{◌≡◌, ◌++◌, map, take}
use Rattle.run_control.specs.Telling.{resumed_event}
use Rattle.run_control.proofs.telling.tell_all_resumed.Given as goal

-- what is told so far
abbrev pub invariant-loop-n : goal.invariant-loop-n
invariant-loop-n l = l.events ≡ l.initial.events ++ map (resumed_event l.number) (take l.n-index l.threads)
