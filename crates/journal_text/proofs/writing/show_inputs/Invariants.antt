use Rattle.std.proofs.Common.{◌≡◌, ◌++◌, drop}
use Rattle.std.specs.List.{AllByRecursion, flat_map}
use Rattle.tcf_text.specs.Log.{Grows}
use Rattle.journal_text.specs.Inputs.{InputIsRead}
use Rattle.journal_text.specs.Written.{IsInputBack, input_text}
use Rattle.journal_text.proofs.writing.show_inputs.Given as goal

abbrev pub invariant-loop-input : goal.invariant-loop-input
invariant-loop-input l =
    record {
      text : l.initial.out ++ flat_map input_text l.inputs ≡ l.out ++ flat_map input_text (drop l.input-index l.inputs);
      grows : Grows l.initial.out l.out;
      read : AllByRecursion InputIsRead (drop l.input-index l.inputs);
      back : AllByRecursion IsInputBack (drop l.input-index l.inputs) → AllByRecursion IsInputBack l.inputs;
    }
