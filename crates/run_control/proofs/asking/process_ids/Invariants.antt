use Rattle.std.proofs.Common.{◌≡◌, map, take}
use Rattle.run_control.specs.Naming.{process_id}
use Rattle.run_control.proofs.asking.process_ids.Given as goal

-- the IDs so far
abbrev pub invariant-loop-number : goal.invariant-loop-number
invariant-loop-number l = l.ids ≡ map process_id (take l.number-index l.numbers)
