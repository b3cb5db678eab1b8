use Rattle.std.proofs.Common.{◌≡◌, ℕ, List, false, length}
use Rattle.target_contexts.specs.declared.process.Image.{Image}
use Rattle.log_check.specs.Barriers.{IsAtStart}
use Rattle.log_check.proofs.Freshness.{FreshSo}
use Rattle.log_check.proofs.fresh.are_fresh.Given as goal

abbrev pub invariant-loop-line : goal.invariant-loop-line
invariant-loop-line l =
    record {
      fresh : l.hub.is_spent ≡ false;
      so : (images : List Image) (k : ℕ) → IsAtStart images l.lines l.inputs k l.commands l.barriers l.initial.hub → FreshSo images l.lines l.inputs l.commands l.barriers l.left l.later l.position l.hub;
    }

abbrev pub decreases-loop-line : goal.decreases-loop-line
decreases-loop-line l = length l.left
