-- What was put piece by piece is the text, or for want of memory a front of it.
use Rattle.std.proofs.Common.{◌≡◌, ℕ, List, [], ◌∷◌, ◌++◌, Result, Ok, Err, refl, sym, ap, ◌∙◌, append_assoc}
use Rattle.std.specs.Prelude.{OnErr}
use Rattle.std.proofs.lemmas.List.{append-nil}
use Rattle.tcf_message.specs.Message.{◌•◌, HasPut}

pub at_err : {T E P : Type 0} (r : Result T E) → P → OnErr r P
at_err (Ok x) p = tt
at_err (Err e) p = p

pub put_nothing : (text old new : List ℕ) → new ≡ old → HasPut text old new
put_nothing text old new e = ([], text, refl, e ∙ sym (append-nil old))

-- a front of the first piece
pub put_front : (a b text old new : List ℕ) → text ≡ a ++ b → HasPut a old new → HasPut text old new
put_front a b text old new e h = (h.0, h.1 ++ b, e ∙ ap (λ (x : List ℕ). x ++ b) h.2 ∙ append_assoc h.0 h.1 b, h.3)

-- the first piece, and a front of the second
pub put_then : (a b text old mid new : List ℕ) → text ≡ a ++ b → mid ≡ old ++ a → HasPut b mid new → HasPut text old new
put_then a b text old mid new e m h =
    (a ++ h.0, h.1, e ∙ ap (λ (x : List ℕ). a ++ x) h.2 ∙ sym (append_assoc a h.0 h.1), h.3 ∙ ap (λ (x : List ℕ). x ++ h.0) m ∙ append_assoc old a h.0)

field_parts : (field rest : List ℕ) → field • rest ≡ (field • []) ++ rest
field_parts field rest = sym (append_assoc field (0 ∷ []) rest)

pub field_front : (field rest old new : List ℕ) → HasPut (field • []) old new → HasPut (field • rest) old new
field_front field rest old new h = put_front (field • []) rest (field • rest) old new (field_parts field rest) h

pub field_then : (field rest old mid new : List ℕ) → mid ≡ old ++ (field • []) → HasPut rest mid new → HasPut (field • rest) old new
field_then field rest old mid new m h = put_then (field • []) rest (field • rest) old mid new (field_parts field rest) m h
