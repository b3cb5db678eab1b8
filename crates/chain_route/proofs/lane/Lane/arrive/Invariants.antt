use Rattle.std.proofs.Common.{◌≡◌, ◌++◌, ◌+◌, length}
use Rattle.chain_route.specs.Lane.{arriving, staying}
use Rattle.chain_route.proofs.lane.Lane.arrive.Given as goal

-- the parts so far and those of the bytes that are left are those of all, and what stays in the end is the same
abbrev pub invariant-loop-left : goal.invariant-loop-left
invariant-loop-left l = record {
  parts : l.parts.items ++ arriving l.left l.self ≡ arriving l.count l.initial.self;
  stays : staying l.left l.self ≡ staying l.count l.initial.self;
}

abbrev pub decreases-loop-left : goal.decreases-loop-left
decreases-loop-left l = l.left + length l.self
