-- Texts are compared alike from either side.
use Rattle.std.proofs.Common.{◌≡◌, ℕ, true, false, true≢false, List, bytes_eq, sym, ◌∙◌}
use Rattle.std.proofs.lemmas.Bool.{false_from_ne_true}
use Rattle.std.proofs.lemmas.Slice.Eq.{bytes_eq-Decides}
use Rattle.list_laws.proofs.Lists.{equal_by}

pub turned : (a b : List ℕ) → bytes_eq a b ≡ true → bytes_eq b a ≡ true
turned a b e = (bytes_eq-Decides b a).1 (sym (equal_by a b e))

pub differ_turned : (a b : List ℕ) → bytes_eq a b ≡ false → bytes_eq b a ≡ false
differ_turned a b e = false_from_ne_true _ (λ f. true≢false (sym (turned b a f) ∙ e))
