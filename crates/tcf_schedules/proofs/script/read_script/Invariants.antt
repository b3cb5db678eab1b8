use Rattle.std.proofs.Common.{◌≡◌, ◌≤◌, ◌+◌, length}
use Rattle.tcf_schedules.specs.Schedule.{lines_of}
use Rattle.tcf_schedules.specs.Script.{before, script_from, script_of}
use Rattle.tcf_schedules.proofs.Scripts.{ReachedScript}
use Rattle.tcf_schedules.proofs.script.read_script.Given as goal

abbrev pub invariant-loop-rest : goal.invariant-loop-rest
invariant-loop-rest l =
    record {
      read : script_of l.file ≡ before l.script (script_from (l.number + 1) (lines_of l.rest));
      reached : ReachedScript l.file l.script l.rest;
      counted : l.number + length l.rest ≤ length l.file;
    }

abbrev pub decreases-loop-rest : goal.decreases-loop-rest
decreases-loop-rest l = length l.rest
