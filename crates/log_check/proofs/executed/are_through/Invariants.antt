use Rattle.std.proofs.Common.{drop, length}
use Rattle.std.specs.List.{AllByRecursion}
use Rattle.journal_text.specs.Inputs.{InputIsRead}
use Rattle.log_check.specs.Matching.{AreFront, passing, through_on}
use Rattle.log_check.proofs.Running.{Against}
use Rattle.log_check.proofs.executed.are_through.Given as goal

abbrev pub invariant-loop-input : goal.invariant-loop-input
invariant-loop-input l =
    record {
      against : Against AreFront (through_on l.channel l.inputs) (passing l.commands) (through_on l.channel l.left) (passing (drop l.done l.commands));
      read : AllByRecursion InputIsRead l.left;
    }

abbrev pub decreases-loop-input : goal.decreases-loop-input
decreases-loop-input l = length l.left
