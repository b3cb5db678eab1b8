use Rattle.std.proofs.Common.{◌≡◌, ◌≤◌, ◌-◌, length, take, drop}
use Rattle.data_services.proofs.memory.range_of.Given as goal

-- the bytes so far
abbrev pub invariant-loop-bytes : goal.invariant-loop-bytes
invariant-loop-bytes l = record {
  few : length l.bytes.items ≤ l.count;
  same : l.bytes.items ≡ take (length l.bytes.items) (drop l.first l.memory.bytes);
}

abbrev pub decreases-loop-bytes : goal.decreases-loop-bytes
decreases-loop-bytes l = l.count - length l.bytes.items
