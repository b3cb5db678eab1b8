-- Texts that are added to.
use Rattle.std.proofs.Common.{◌≡◌, ℕ, List, ◌++◌, ◌∙◌, ap, append_assoc}
use Rattle.tcf_text.specs.Log.{Grows}

-- a text that was added to grows from where it stood before an earlier addition
pub grows_later : (a b c x : List ℕ) → b ≡ a ++ x → Grows b c → Grows a c
grows_later a b c x is later =
    record { part = x ++ later.part; added = later.added ∙ (ap (λ t. t ++ later.part) is ∙ append_assoc a x later.part) }
