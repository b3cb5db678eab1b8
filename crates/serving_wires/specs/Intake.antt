-- What waits for an end: a piece is given to it only where its inbox holds fewer than 200 messages.
use Rattle.std.specs.Prelude.{ℕ, List, [], ◌∷◌, Option, None, Some, nat_lt, if◌then◌else◌}
use Rattle.std.specs.List.{flat_map}
use Rattle.serving_wires.specs.declared.intake.Came.{Came}
use Rattle.serving_wires.specs.declared.intake.Came.TheVariants.{Piece, End}

-- what is given next to an end whose inbox holds so many messages
abbrev pub next_for : ℕ → List Came → Option Came
next_for inbox [] = None
next_for inbox (Piece bytes ∷ later) = if nat_lt inbox 200 then Some (Piece bytes) else None
next_for inbox (End ∷ later) = Some End

-- what waits then
abbrev pub left_for : ℕ → List Came → List Came
left_for inbox [] = []
left_for inbox (Piece bytes ∷ later) = if nat_lt inbox 200 then later else Piece bytes ∷ later
left_for inbox (End ∷ later) = later

-- the bytes of the pieces that wait
abbrev pub piece_bytes : Came → List ℕ
piece_bytes (Piece bytes) = bytes
piece_bytes End = []

abbrev pub bytes_in : List Came → List ℕ
bytes_in waiting = flat_map piece_bytes waiting
