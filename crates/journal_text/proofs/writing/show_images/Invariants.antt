use Rattle.std.proofs.Common.{◌≡◌, ◌++◌, drop}
use Rattle.std.specs.List.{flat_map}
use Rattle.tcf_text.specs.Log.{Grows}
use Rattle.journal_text.specs.Written.{image_text}
use Rattle.journal_text.proofs.writing.show_images.Given as goal

abbrev pub invariant-loop-image : goal.invariant-loop-image
invariant-loop-image l =
    record {
      text : l.initial.out ++ flat_map image_text l.images ≡ l.out ++ flat_map image_text (drop l.image-index l.images);
      grows : Grows l.initial.out l.out;
    }
