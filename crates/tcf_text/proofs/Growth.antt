-- Texts that are added to.
use Rattle.std.proofs.Common.{◌≡◌, ℕ, List, ◌++◌, length, take, ◌∙◌, ap, append_assoc}
use Rattle.std.proofs.Math.Seq.{take-append_seam}
use Rattle.tcf_text.specs.Log.{Grows}

-- a text that was added to grows from where it stood before an earlier addition
pub grows_later : (a b c x : List ℕ) → b ≡ a ++ x → Grows b c → Grows a c
grows_later a b c x is later =
    record { part = x ++ later.part; added = later.added ∙ (ap (λ t. t ++ later.part) is ∙ append_assoc a x later.part) }

-- a text that has grown, and then was added to
pub grows_on : (a b c x : List ℕ) → Grows a b → c ≡ b ++ x → Grows a c
grows_on a b c x so_far is =
    record { part = so_far.part ++ x; added = is ∙ (ap (λ t. t ++ x) so_far.added ∙ append_assoc a so_far.part x) }

-- of a text that has grown, its first bytes again
pub taken_back : (a b c : List ℕ) (n : ℕ) → n ≡ length a → Grows a b → c ≡ take n b → c ≡ a
taken_back a b c n size grown is =
    is ∙ (ap (λ k. take k b) size ∙ (ap (take (length a)) grown.added ∙ take-append_seam a grown.part))
