use Rattle.std.proofs.Common.{◌≡◌, ◌++◌, drop, filter}
use Rattle.target_contexts.specs.Live.{process_of}
use Rattle.target_contexts.specs.Named.{is_attached}
use Rattle.run_control.proofs.telling.attached_among.Given as goal

-- those so far, and those among the numbers that are left
abbrev pub invariant-loop-number : goal.invariant-loop-number
invariant-loop-number l =
    l.attached.items ++ filter (λ number. is_attached (process_of number l.targets.seen.processes)) (drop l.number-index l.numbers)
    ≡ filter (λ number. is_attached (process_of number l.targets.seen.processes)) l.numbers
