use Rattle.std.proofs.Common.{◌≡◌, ◌-◌}
use Rattle.client_serving.specs.Serving.{taken_so_many}
use Rattle.client_serving.proofs.serving.Serving.take_all.Given as goal

-- the messages so far and then the others come to the same
abbrev pub invariant-loop-counter : goal.invariant-loop-counter
invariant-loop-counter l = taken_so_many l.waiting l.initial.self ≡ taken_so_many (l.waiting - l.counter) l.self
