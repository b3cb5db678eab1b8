use Rattle.std.proofs.Common.{◌≡◌, ◌-◌, ◌≤◌, length}
use Rattle.rv32i_core.proofs.ram.Memory.ready.Given as goal

-- the spare only grows
abbrev pub invariant-loop-self : goal.invariant-loop-self
invariant-loop-self l = record {
  pages : l.self-inside.pages ≡ l.initial.self-inside.pages;
  more : length l.initial.self-inside.spare.items ≤ length l.self-inside.spare.items;
}

abbrev pub decreases-loop-self : goal.decreases-loop-self
decreases-loop-self l = l.count - length l.self-inside.spare.items
