-- Each front of what is heard is what is heard of a front of what is told.
use Rattle.std.proofs.Common.{◌≡◌, Bool, true, false, List, [], ◌∷◌, ◌++◌, refl, sym, ap, subst, ◌∙◌, inl, inr}
use Rattle.std.specs.Prelude.{◌||◌}
use Rattle.std.proofs.lemmas.Bool.{cases_Bool}
use Rattle.target_hub.specs.Sent.{ReadCommand, Told}
use Rattle.target_truth.specs.Listening.{Hears, hears, hears_nothing, is_event, misses}
use Rattle.target_truth.specs.Taught.{message_of, open_after, position_of}
use Rattle.hub_truth.proofs.Listened.{At, IsFrontHeard, heard, is_own, owns_after}

no_event : (told : Told) (own : Bool) → (is_event told || own) ≡ false → is_event told ≡ false
no_event told own not_for = elim (cases_Bool (is_event told)) [ inl event ↦ absurd (let flag : (is_event told || own) ≡ true = rw event refl in cc) | inr silent ↦ silent ]

module _ where
  its : List ReadCommand → Told → At
  its commands told = record { message = message_of commands told; position = position_of told }

  parts_of : {A : Type 0} (x y : A) (xs ys : List A) → x ∷ xs ≡ y ∷ ys → (x ≡ y) × (xs ≡ ys)
  parts_of x y xs ys e = (cc, cc)

  longer : (told : Told) (owns : List Bool) (commands : List ReadCommand) (rest : List Told) (first : List At) (last : At)
      → IsFrontHeard (owns_after told owns) (open_after told commands) rest first last
      → IsFrontHeard owns commands (told ∷ rest) (record { message = message_of commands told; position = position_of told } ∷ first) last
  longer told owns commands rest first last f = record {
    front = told ∷ f.front;
    final = f.final;
    rest = f.rest;
    parts = ap (λ xs. told ∷ xs) f.parts;
    position = f.position;
    hears = hears told f.hears;
  }

  missed : (told : Told) (owns : List Bool) (commands : List ReadCommand) (rest : List Told) (first : List At) (last : At) → is_event told ≡ false
      → IsFrontHeard (owns_after told owns) (open_after told commands) rest first last
      → IsFrontHeard owns commands (told ∷ rest) first last
  missed told owns commands rest first last silent f = record {
    front = told ∷ f.front;
    final = f.final;
    rest = f.rest;
    parts = ap (λ xs. told ∷ xs) f.parts;
    position = f.position;
    hears = misses told silent f.hears;
  }

  heard_first : (told : Told) (owns : List Bool) (commands : List ReadCommand) (rest : List Told) (first later : List At) (last : At)
      → record { message = message_of commands told; position = position_of told } ∷ heard (owns_after told owns) (open_after told commands) rest ≡ first ++ last ∷ later
      → ((xs ys : List At) (x : At) → heard (owns_after told owns) (open_after told commands) rest ≡ xs ++ x ∷ ys
      → IsFrontHeard (owns_after told owns) (open_after told commands) rest xs x)
      → IsFrontHeard owns commands (told ∷ rest) first last
  heard_first told owns commands rest [] later last is then =
      let e = parts_of _ last _ later is in
      record {
        front = [];
        final = told;
        rest = rest;
        parts = refl;
        position = sym (ap (λ (at : At). at.position) e.0);
        hears = subst (λ (at : At). Hears commands (told ∷ []) (at.message ∷ [])) e.0 (hears told hears_nothing);
      }
  heard_first told owns commands rest (x ∷ first) later last is then =
      let e = parts_of _ x _ (first ++ last ∷ later) is in
      subst (λ (at : At). IsFrontHeard owns commands (told ∷ rest) (at ∷ first) last) e.0 (longer told owns commands rest first last (then first later last e.1))

  pub each_front : (owns : List Bool) (commands : List ReadCommand) (told : List Told) (first rest : List At) (last : At)
      → heard owns commands told ≡ first ++ last ∷ rest → IsFrontHeard owns commands told first last
  each_front owns commands [] [] rest last is = absurd (cc)
  each_front owns commands [] (x ∷ first) rest last is = absurd (cc)
  each_front owns commands (told ∷ more) first rest last is =
      let then = λ (xs ys : List At) (x : At) (e : heard (owns_after told owns) (open_after told commands) more ≡ xs ++ x ∷ ys).
      each_front (owns_after told owns) (open_after told commands) more xs ys x e in
      elim (cases_Bool (is_event told || is_own owns)) [
        | inl its_own ↦
            let all : heard owns commands (told ∷ more)
            ≡ record { message = message_of commands told; position = position_of told } ∷ heard (owns_after told owns) (open_after told commands) more = rw its_own refl in
            heard_first told owns commands more first rest last (sym all ∙ is) then
        | inr others ↦
            let all : heard owns commands (told ∷ more) ≡ heard (owns_after told owns) (open_after told commands) more = rw others refl in
            missed told owns commands more first last (no_event told (is_own owns) others) (then first rest last (sym all ∙ is))
      ]
