use Rattle.std.proofs.Common.{◌≤◌, ◌+◌, length}
use Rattle.journal_text.proofs.Reaching.{Reached}
use Rattle.journal_text.proofs.reading.read_journal.Given as goal

abbrev pub invariant-loop-rest : goal.invariant-loop-rest
invariant-loop-rest l =
    record {
      reached : Reached l.file l.rest l.number l.reading;
      counted : l.number + length l.rest ≤ length l.file;
    }

abbrev pub decreases-loop-rest : goal.decreases-loop-rest
decreases-loop-rest l = length l.rest
