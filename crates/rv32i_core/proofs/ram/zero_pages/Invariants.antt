use Rattle.std.proofs.Common.{◌-◌, ◌≤◌, length}
use Rattle.rv32i_core.proofs.ram.zero_pages.Given as goal

abbrev pub invariant-loop-alloc : goal.invariant-loop-alloc
invariant-loop-alloc l = length l.pages.items ≤ l.count

abbrev pub decreases-loop-alloc : goal.decreases-loop-alloc
decreases-loop-alloc l = l.count - length l.pages.items
