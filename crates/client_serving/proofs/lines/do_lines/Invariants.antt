use Rattle.std.proofs.Common.{◌≡◌, length}
use Rattle.std.specs.List.{AllByRecursion}
use Rattle.tcf_schedules.specs.Script.{IsFit}
use Rattle.client_serving.specs.Lines.{did_lines}
use Rattle.client_serving.proofs.lines.do_lines.Given as goal

-- the lines that are left and all of them come to the same
abbrev pub invariant-loop-line : goal.invariant-loop-line
invariant-loop-line l = record {
  done : did_lines l.left l.client ≡ did_lines l.fn.script l.initial.client;
  fit : AllByRecursion IsFit l.left;
}

abbrev pub decreases-loop-line : goal.decreases-loop-line
decreases-loop-line l = length l.left
