-- A text to which a line is added.
use Rattle.std.proofs.Common.{◌≡◌, List, ℕ, [], ◌∷◌, ◌++◌, sym, ◌∙◌, ap, append-nil, append_assoc}
use Rattle.std.specs.Prelude.{Result, Ok, Err, OnErr}
use Rattle.tcf_text.specs.Log.{Grows}

pub grows_not : {T E : Type 0} (r : Result T E) (out : List ℕ) → OnErr r (Grows out out)
grows_not (Ok value) out = tt
grows_not (Err error) out = record { part = []; added = sym (append-nil out) }

-- one line more, and its end
pub line_more : (start out middle new words rest : List ℕ) → start ≡ out ++ (words ++ 10 ∷ [] ++ rest) → middle ≡ out ++ words → new ≡ middle ++ 10 ∷ [] → start ≡ new ++ rest
line_more start out middle new words rest so_far one two =
    so_far
    ∙ (sym (append_assoc out (words ++ 10 ∷ []) rest) ∙ ap (λ t. t ++ rest) (sym (append_assoc out words (10 ∷ [])) ∙ (ap (λ t. t ++ 10 ∷ []) (sym one) ∙ sym two)))
