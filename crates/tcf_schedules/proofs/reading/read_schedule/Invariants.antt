use Rattle.std.proofs.Common.{◌≡◌, ◌≤◌, ◌+◌, length}
use Rattle.tcf_schedules.specs.Schedule.{after_lines, schedule_of, lines_of, meaning}
use Rattle.tcf_schedules.proofs.FirstBad.{Reached}
use Rattle.tcf_schedules.proofs.reading.read_schedule.Given as goal

abbrev pub invariant-loop-rest : goal.invariant-loop-rest
invariant-loop-rest l =
    record {
      read : schedule_of l.file ≡ after_lines (l.number + 1) (meaning l.reading) (lines_of l.rest);
      reached : Reached l.file (meaning l.reading) l.rest;
      counted : l.number + length l.rest ≤ length l.file;
    }

abbrev pub decreases-loop-rest : goal.decreases-loop-rest
decreases-loop-rest l = length l.rest
