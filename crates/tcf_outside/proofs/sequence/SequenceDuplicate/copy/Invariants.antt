use Rattle.std.proofs.Common.{◌≡◌, take}
use Rattle.tcf_outside.proofs.sequence.SequenceDuplicate.copy.Given as goal

abbrev pub invariant-loop-item : goal.invariant-loop-item
invariant-loop-item g l = l.twin ≡ take l.item-index l.item-items
