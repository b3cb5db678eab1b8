use Rattle.std.proofs.Common.{◌≡◌, false, length}
use Rattle.std.specs.List.{AllByRecursion}
use Rattle.journal_text.specs.Inputs.{InputIsRead}
use Rattle.target_hub.specs.History.{inputs_after}
use Rattle.log_check.proofs.fresh.follow_all.Given as goal

abbrev pub invariant-loop-input : goal.invariant-loop-input
invariant-loop-input l =
    record {
      fresh : l.hub.is_spent ≡ false;
      so : inputs_after l.inputs l.initial.hub.target ≡ inputs_after l.left l.hub.target;
      read : AllByRecursion InputIsRead l.left;
    }

abbrev pub decreases-loop-input : goal.decreases-loop-input
decreases-loop-input l = length l.left
