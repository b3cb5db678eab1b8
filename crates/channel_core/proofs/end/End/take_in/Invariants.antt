use Rattle.std.proofs.Common.{◌≡◌}
use Rattle.channel_core.specs.Receiving.{came_by}
use Rattle.channel_core.proofs.end.End.take_in.Given as goal

-- the items that are left come to the same
abbrev pub invariant-loop-item : goal.invariant-loop-item
invariant-loop-item g l = came_by l.mark l.item-iterator.rest.items l.self ≡ came_by l.mark l.initial.item-iterator.rest.items l.initial.self
