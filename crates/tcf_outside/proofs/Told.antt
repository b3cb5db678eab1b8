use Rattle.std.proofs.Common.{◌≡◌, ℕ, ◌+◌, ◌-◌, List, length, take, drop, refl, append_assoc}
use Rattle.std.specs.Prelude.{Option, None, Some}
use Rattle.std.proofs.lemmas.List.{take_rest}
use Rattle.std.proofs.Math.Seq.{take-add}
use Rattle.tcf_outside.specs.Sink.{added}

-- the front that was told, and then n bytes of what is left, are a longer front
pub added_more : (t : Option (List ℕ)) (xs : List ℕ) (i n : ℕ)
    → added (take n (take (length xs - i) (drop i xs))) (added (take i xs) t) ≡ added (take (i + n) xs) t
added_more None xs i n = refl
added_more (Some before) xs i n = rw (take_rest xs i, take-add i n xs) (simp append_assoc)
