-- Where the word of an image is cut.
use Rattle.std.proofs.Common.{◌≡◌, ℕ, List, sym, ap, arith}
use Rattle.std.specs.Prelude.{Option, None, Some, option_map}
use Rattle.std.specs.Borrow.{Bor}
use Rattle.std.proofs.lemmas.Str.Pattern.{IsSplitOnceResult, split_parts}
use Rattle.tcf_values.specs.Cut.{cut_of}
use Rattle.tcf_values.specs.CutLaws.{lacks_by_index, cut_there, cut_missing}
use Rattle.tcf_app.specs.Words.{image_by, image_in}

cut_is : (word : List ℕ) (r : Option (Bor (List ℕ) × Bor (List ℕ))) → IsSplitOnceResult 61 word r → option_map (λ x. (x.0.now, x.1.now)) r ≡ cut_of 61 word
cut_is word None h = sym (cut_missing 61 word (lacks_by_index 61 word (split_parts 61 word None h (omega arith))))
cut_is word (Some x) h =
    let parts = split_parts 61 word (Some x) h (omega arith) in
    sym (cut_there 61 word x.0.now x.1.now (lacks_by_index 61 x.0.now parts.1, parts.0))

pub image_is : (word : List ℕ) (r : Option (Bor (List ℕ) × Bor (List ℕ))) → IsSplitOnceResult 61 word r → image_by (option_map (λ x. (x.0.now, x.1.now)) r) ≡ image_in word
image_is word r h = ap image_by (cut_is word r h)
