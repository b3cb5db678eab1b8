use Rattle.std.proofs.Common.{◌≡◌, ◌++◌, drop, map, take}
use Rattle.target_contexts.specs.Starting.{first_state}
use Rattle.run_control.specs.Steering.{with_state}
use Rattle.run_control.proofs.attaching.set_states.Given as goal

-- those so far have the state, and the others stay
abbrev pub invariant-loop-place : goal.invariant-loop-place
invariant-loop-place l =
    l.threads ≡ map (with_state (first_state l.attached)) (take l.place l.initial.threads) ++ drop l.place l.initial.threads
