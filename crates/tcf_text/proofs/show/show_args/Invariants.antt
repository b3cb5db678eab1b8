use Rattle.std.proofs.Common.{◌≡◌, ◌++◌, length}
use Rattle.tcf_text.specs.Log.{args_text, Grows}
use Rattle.tcf_text.proofs.show.show_args.Given as goal

abbrev pub invariant-loop-part : goal.invariant-loop-part
invariant-loop-part l =
    record {
      text : l.initial.out ++ args_text l.how l.body ≡ l.out ++ args_text l.how l.rest;
      grows : Grows l.initial.out l.out;
    }

abbrev pub decreases-loop-part : goal.decreases-loop-part
decreases-loop-part l = length l.rest
