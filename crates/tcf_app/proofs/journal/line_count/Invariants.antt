use Rattle.std.proofs.Common.{◌≡◌, ◌≤◌, ◌+◌, length}
use Rattle.tcf_schedules.specs.Schedule.{lines_of}
use Rattle.tcf_app.proofs.journal.line_count.Given as goal

abbrev pub invariant-loop-rest : goal.invariant-loop-rest
invariant-loop-rest l =
    record {
      lines : length (lines_of l.file) ≡ l.count + length (lines_of l.rest);
      few : l.count + length l.rest ≤ length l.file;
    }

abbrev pub decreases-loop-rest : goal.decreases-loop-rest
decreases-loop-rest l = length l.rest
