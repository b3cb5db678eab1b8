use Rattle.std.proofs.Common.{◌≡◌, ◌++◌, length}
use Rattle.std.specs.Vec.Iter.{into_iter_items, into_iter_len}
use Rattle.journal_text.specs.Images.{images_as}
use Rattle.journal_text.proofs.reading.images_from.Given as goal

abbrev pub invariant-loop-image : goal.invariant-loop-image
invariant-loop-image l =
    (l.images ++ images_as (into_iter_items l.image-iterator) ≡ images_as l.fn.named.items) × (into_iter_len l.image-iterator ≡ length (into_iter_items l.image-iterator))
