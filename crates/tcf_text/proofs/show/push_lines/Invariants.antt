use Rattle.std.proofs.Common.{◌≡◌, ◌++◌, drop}
use Rattle.tcf_text.specs.Log.{lines_text, Grows}
use Rattle.tcf_text.proofs.show.push_lines.Given as goal

abbrev pub invariant-loop-line : goal.invariant-loop-line
invariant-loop-line l =
    record {
      text : l.initial.out ++ lines_text l.how l.lines ≡ l.out ++ lines_text l.how (drop l.line-index l.lines);
      grows : Grows l.initial.out l.out;
    }
