-- What waits is what is given next, and behind it what is left.
use Rattle.std.proofs.Common.{◌≡◌, ℕ, Bool, true, false, List, [], ◌∷◌, ◌++◌, Some, None, nat_lt, refl, ap, ◌∙◌, append-nil}
use Rattle.std.specs.Prelude.{if◌then◌else◌, option_to_list}
use Rattle.std.proofs.lemmas.Grind.{flat_map-append}
use Rattle.serving_wires.specs.Intake.{bytes_in, left_for, next_for, piece_bytes}
use Rattle.serving_wires.specs.declared.intake.Came.{Came}
use Rattle.serving_wires.specs.declared.intake.Came.TheVariants.{Piece, End}

pub next_and_left : (inbox : ℕ) (waiting : List Came) → waiting ≡ option_to_list (next_for inbox waiting) ++ left_for inbox waiting
next_and_left inbox [] = refl
next_and_left inbox (Piece bytes ∷ later) = by_flag (nat_lt inbox 200)
  where
    by_flag : (flag : Bool) → Piece bytes ∷ later ≡ option_to_list (if flag then Some (Piece bytes) else None) ++ (if flag then later else Piece bytes ∷ later)
    by_flag true = refl
    by_flag false = refl
next_and_left inbox (End ∷ later) = refl

-- what comes waits behind all that is there
pub bytes_behind : (waiting : List Came) (what : Came) → bytes_in (waiting ++ what ∷ []) ≡ bytes_in waiting ++ piece_bytes what
bytes_behind waiting what = flat_map-append piece_bytes waiting (what ∷ []) ∙ ap (λ (bytes : List ℕ). bytes_in waiting ++ bytes) (append-nil (piece_bytes what))
