use Rattle.std.proofs.Common.{drop, length}
use Rattle.std.specs.List.{AllByRecursion}
use Rattle.journal_text.specs.Inputs.{InputIsRead}
use Rattle.target_hub.specs.Sent.{executed_on}
use Rattle.log_check.specs.Matching.{AreLeft, as_read}
use Rattle.log_check.proofs.Running.{Against}
use Rattle.log_check.proofs.executed.are_sent.Given as goal

abbrev pub invariant-loop-input : goal.invariant-loop-input
invariant-loop-input l =
    record {
      against : Against AreLeft (executed_on l.channel l.inputs) (as_read l.commands) (executed_on l.channel l.left) (as_read (drop l.done l.commands));
      read : AllByRecursion InputIsRead l.left;
    }

abbrev pub decreases-loop-input : goal.decreases-loop-input
decreases-loop-input l = length l.left
